-- What a rounded result means, for F: the theorems `F-rounds` and `F-own`. Assumes nothing.
use native.Mathlib.Omega.{arith}
use mathlib.Core.Path.{◌≡◌}
use Prim.Native.Nat.{ℕ, ◌<◌}
use Rattle.floating.specs.declared.Delivery.TheVariants.{Word}
use Rattle.floating.specs.Format.{Format, F}
use Rattle.floating.specs.Exact.{Exact}
use Rattle.floating.specs.Delivered.{delivered}
use Rattle.floating.proofs.Packing.{Sound, F-sound}
use Rattle.floating.proofs.Meaning.{underflow-means, overflow-means, word_else, zero_word, delivered-sign, delivered-lt, delivered-over, delivered-under}
use Rattle.floating.proofs.Meaning.{delivered-own}
use Rattle.demands.specs.Rounds.{Nearest, Rounds, OwnWord}

module _ (f : Format) (S : Sound f) (v : Exact) where
  nearest : v.sign < 2 → 0 < v.den → (v.num ≡ 0 → ⊥) → (w : ℕ) → delivered f v ≡ Word w → Nearest f v w
  nearest hs D some w is = grind (arith, delivered-sign, delivered-lt, delivered-over, delivered-under)

  -- over the format
  rounds : Rounds f v
  rounds = record {
    zero = zero_word f v;
    some = λ hs D some. record {
      underflow = underflow-means f v D some;
      overflow = overflow-means f v D some;
      word = λ under over. let x = word_else f v D some under over in (x.0, nearest hs D some x.0 x.1);
    };
  }

pub F-rounds : (v : Exact) → Rounds F v
F-rounds = rounds F F-sound

pub F-own : (w : ℕ) → OwnWord F w
F-own = delivered-own F F-sound
