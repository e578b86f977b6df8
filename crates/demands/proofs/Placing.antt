-- One element more is written into Vc, in rising order: what each element of each register holds before and after. Assumes nothing.
use mathlib.Core.Bool.{Bool, true, ◌&&◌}
use mathlib.Core.List.{List}
use mathlib.Core.Path.{◌≡◌}
use Prim.Native.Nat.{ℕ, suc, ◌<◌}
use native.Mathlib.Omega.{arith}
use lib.Dec.{eqb}
use lib.ListN.{length, set}
use lib.Seq.{get_or-set_same, get_or-set_other}
use Rattle.numbers.specs.Choice.{pick}
use Rattle.state.specs.State.{place_of}
use Rattle.state.specs.Elements.{at}
use Rattle.demands.proofs.Coming.{come, come-before, come-now}

-- of Vc the chosen elements below n hold their value, and every other element what it held
abbrev pub Placed : ℕ → (ℕ → Bool) → (ℕ → ℕ → ℕ) → (ℕ → ℕ → ℕ) → ℕ → List ℕ → Type 0
Placed vc on value old n m = (p i : ℕ) → p < 16 → i < 64 → at m p i ≡ pick (eqb p vc && come on n i) (value p i) (old p i)

module _ (vc : ℕ) (register : vc < 16) (on : ℕ → Bool) (value old : ℕ → ℕ → ℕ) (n : ℕ) (small : n < 64) (m : List ℕ) (long : length m ≡ 1024)
    (before : Placed vc on value old n m) where
  abbrev next : List ℕ
  next = set m (place_of vc n) (value vc n)

  kept : (p i : ℕ) → (place_of p i ≡ place_of vc n → ⊥) → p < 16 → i < 64 → (eqb p vc && come on n i) ≡ (eqb p vc && come on (suc n) i)
      → at next p i ≡ pick (eqb p vc && come on (suc n) i) (value p i) (old p i)
  kept p i apart a b same = grind (arith, get_or-set_other)

  pub places-next : on n ≡ true → Placed vc on value old (suc n) next
  places-next e p i a b = grind (arith, get_or-set_same, come-now, kept, come-before)
