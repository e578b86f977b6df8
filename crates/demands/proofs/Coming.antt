-- The elements that have come when those below n have: of the chosen ones, those below n. Assumes nothing.
use mathlib.Core.Bool.{Bool, false, ◌&&◌}
use mathlib.Core.Path.{◌≡◌}
use Prim.Native.Nat.{ℕ, suc}
use native.Mathlib.Omega.{arith}
use lib.Dec.{ltb}

abbrev pub come : (ℕ → Bool) → ℕ → ℕ → Bool
come on n i = ltb i n && on i

module _ (on : ℕ → Bool) where
  pub come-not : (n : ℕ) → come on n n ≡ false
  come-not n = grind arith

  pub come-first : (i : ℕ) → come on 0 i ≡ false
  come-first i = grind arith

  pub come-before : (n i : ℕ) → (i ≡ n → ⊥) → come on (suc n) i ≡ come on n i
  come-before n i other = grind arith

  pub come-now : (n : ℕ) → come on (suc n) n ≡ on n
  come-now n = grind arith

  -- where n is not chosen none comes
  pub come-same : (n i : ℕ) → on n ≡ false → come on (suc n) i ≡ come on n i
  come-same n i e = grind arith
