-- The check goes by its tests among the steps alone: tests that agree there give the same answers.
-- Assumes nothing.
use mathlib.Core.Path.{◌≡◌, refl, ap, ap₂}
use mathlib.Core.Logic.{inl, inr}
use mathlib.Core.Bool.{Bool, true, false, not, ◌&&◌, ◌||◌}
use mathlib.Core.List.{List, [], ◌∷◌}
use Prim.Native.Nat.{ℕ, suc}
use Rattle.numbers.specs.Choice.{pick}
use Rattle.std.specs.Prelude.{Err}
use Rattle.order.specs.Order.{Verdict, Mem, has, each, ready, ok, check_from, check}
use Rattle.order.proofs.Tests.{T_true, has→mem}

pub each_same : (p p' : ℕ → Bool) (l : List ℕ) → ((a : ℕ) → Mem a l → p a ≡ p' a) → each p l ≡ each p' l
unfolding each
each_same p p' [] f = refl
each_same p p' (x ∷ l) f = ap₂ (λ (a b : Bool). a && b) (f x (inl refl)) (each_same p p' l (λ a m. f a (inr m)))

module _ (steps : List ℕ) (before before' : ℕ → ℕ → Bool) (same : (a x : ℕ) → Mem a steps → Mem x steps → before a x ≡ before' a x) where
  ok_same : (seen : List ℕ) (x : ℕ) → ok before steps seen x ≡ ok before' steps seen x
  unfolding ok ready
  ok_same seen x = go (has x steps) (λ e. has→mem x steps (T_true (has x steps) e))
    where
      go : (t : Bool) → (t ≡ true → Mem x steps)
          → (t && (not (has x seen) && each (λ (a : ℕ). not (before a x) || has a seen) steps))
          ≡ (t && (not (has x seen) && each (λ (a : ℕ). not (before' a x) || has a seen) steps))
      go true f = ap (λ (b : Bool). not (has x seen) && b) (each_same _ _ steps (λ a m. ap (λ (b : Bool). not b || has a seen) (same a x m (f refl))))
      go false f = refl

  from-same : (l seen : List ℕ) (i : ℕ) → check_from before steps seen i l ≡ check_from before' steps seen i l
  unfolding check_from
  from-same [] seen i = refl
  from-same (x ∷ l) seen i = ap₂ (λ (t : Bool) (v : Verdict). pick t v (Err i)) (ok_same seen x) (from-same l (x ∷ seen) (suc i))

  pub check-same : (l : List ℕ) → check before steps l ≡ check before' steps l
  unfolding check
  check-same l = from-same l [] 0
