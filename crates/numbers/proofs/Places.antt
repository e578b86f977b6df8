-- A list by its places. Assumes nothing.
use mathlib.Core.Path.{◌≡◌, refl, ap, subst}
use mathlib.Core.List.{List, [], ◌∷◌}
use Prim.Native.Nat.{ℕ, zero, suc}
use lib.ListN.{length, get_or}

-- the values of f below n
abbrev pub values_below : ℕ → (ℕ → ℕ) → List ℕ
values_below zero f = []
values_below (suc n) f = f 0 ∷ values_below n (λ (i : ℕ). f (suc i))

all-places : (l : List ℕ) → l ≡ values_below (length l) (λ (i : ℕ). get_or l i 0)
all-places [] = refl
all-places (x ∷ l) = ap (λ (t : List ℕ). x ∷ t) (all-places l)

-- a list of n elements, written out
pub places : (n : ℕ) (l : List ℕ) → length l ≡ n → l ≡ values_below n (λ (i : ℕ). get_or l i 0)
places n l e = subst (λ (m : ℕ). l ≡ values_below m (λ (i : ℕ). get_or l i 0)) e (all-places l)
