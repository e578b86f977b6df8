-- The numbers that pass a test, rising: which they are, and that they rise; tests that agree on a stretch pass the same. Assumes nothing.
use mathlib.Core.Path.{◌≡◌, refl, sym, ap₂, subst}
use mathlib.Core.Logic.{inl, inr, ⊎_elim}
use mathlib.Core.Bool.{Bool}
use mathlib.Core.List.{List, ◌∷◌}
use Prim.Native.Nat.{ℕ, zero, suc, ◌+◌, ◌<◌, ◌≤◌}
use native.Mathlib.Omega.{arith}
use native.Mathlib.Decide.{ℕ_discrete}
use lib.Dec.{T}
use Rattle.numbers.specs.Choice.{pick}
use Rattle.order.specs.Order.{Mem}
use Rattle.order.specs.Steps.{passing}
use Rattle.order.proofs.Tests.{by-pick}
use Rattle.order.proofs.Meaning.{Asc}

module _ (p : ℕ → Bool) where
  pub passing→ : (a i n : ℕ) → Mem a (passing p i n) → (i ≤ a) × (a < i + n) × T (p a)
  unfolding passing
  passing→ a i zero m = absurd m
  passing→ a i (suc n) m =
      by-pick (λ (l : List ℕ). Mem a l → (i ≤ a) × (a < i + suc n) × T (p a)) (p i) (i ∷ passing p (suc i) n) (passing p (suc i) n)
      (λ t h. ⊎_elim (λ e. (omega arith, omega arith, subst (λ (z : ℕ). T (p z)) (sym e) t)) (λ k. on (passing→ a (suc i) n k)) h)
      (λ f h. on (passing→ a (suc i) n h)) m
    where
      on : (suc i ≤ a) × (a < suc i + n) × T (p a) → (i ≤ a) × (a < i + suc n) × T (p a)
      on w = (omega arith, omega arith, w.2)

  pub →passing : (a i n : ℕ) → i ≤ a → a < i + n → T (p a) → Mem a (passing p i n)
  unfolding passing
  →passing a i zero h k t = absurd (none h k)
    where
      none : i ≤ a → a < i + zero → ⊥
      none x y = omega arith
  →passing a i (suc n) h k t =
      by-pick (λ (l : List ℕ). Mem a l) (p i) (i ∷ passing p (suc i) n) (passing p (suc i) n)
      (λ u. here (ℕ_discrete a i) (λ n'. →passing a (suc i) n (omega (arith, n')) (omega arith) t))
      (λ f. →passing a (suc i) n (later f (ℕ_discrete a i)) (omega arith) t)
    where
      here : Dec (a ≡ i) → ((a ≡ i → ⊥) → Mem a (passing p (suc i) n)) → Mem a (i ∷ passing p (suc i) n)
      here (yes e) g = inl e
      here (no e) g = inr (g e)

      later : (T (p i) → ⊥) → Dec (a ≡ i) → suc i ≤ a
      later f (yes e) = absurd (f (subst (λ (z : ℕ). T (p z)) e t))
      later f (no e) = omega arith

  pub rising : (i n : ℕ) → Asc (passing p i n)
  unfolding passing
  rising i zero = tt
  rising i (suc n) =
      by-pick Asc (p i) (i ∷ passing p (suc i) n) (passing p (suc i) n)
      (λ t. (λ y m. (passing→ y (suc i) n m).0, rising (suc i) n)) (λ f. rising (suc i) n)

pub passing-same : (p p' : ℕ → Bool) (i n : ℕ) → ((k : ℕ) → i ≤ k → k < i + n → p k ≡ p' k) → passing p i n ≡ passing p' i n
unfolding passing
passing-same p p' i zero f = refl
passing-same p p' i (suc n) f =
    ap₂ (λ (t : Bool) (l : List ℕ). pick t (i ∷ l) l) (f i (omega arith) (omega arith))
    (passing-same p p' (suc i) n (λ k h g. f k (omega arith) (omega arith)))
