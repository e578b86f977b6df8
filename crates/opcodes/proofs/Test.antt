-- A rule of a list, proved at all of its entries by one test that is computed, one entry after the
-- other. Assumes nothing.
use mathlib.Core.Path.{◌≡◌, refl, ◌∙◌, ap, subst, sym}
use mathlib.Core.Bool.{Bool, true, false, ◌&&◌, ◌||◌, beq}
use mathlib.Core.List.{List, [], ◌∷◌}
use Prim.Native.Nat.{ℕ, zero, suc, ◌+◌, ◌<◌}
use native.Mathlib.Nat.{add-zero, zero-add, add-suc, suc-add, le_of_suc-le-suc, not-suc-le-zero}
use native.Mathlib.Omega.{arith}
use borrow.Author.Tests.{ne_eqb, eqb-true}
use lib.Dec.{T, eqb}
use lib.ListN.{length, get_or}
use Rattle.numbers.proofs.BitLaws.{dec_eq}
use Rattle.opcodes.specs.Working.{named}
use Rattle.numbers.proofs.Tests.{true-not-false}

pub and_left : (a b : Bool) → T (a && b) → T a
and_left true b t = tt
and_left false b t = t

pub and_right : (a b : Bool) → T (a && b) → T b
and_right true b t = t
and_right false b t = absurd t

pub same-is : (a b : Bool) → T (beq a b) → a ≡ b
same-is true true t = refl
same-is true false t = absurd t
same-is false true t = absurd t
same-is false false t = refl

module _ {A : Type 0} (f : ℕ → A → Bool) where
  -- the test passes at each entry of the list and its place, counted from i
  abbrev pub every : ℕ → List A → Bool
  every i [] = true
  every i (x ∷ xs) = f i x && every (suc i) xs

  from : (d : A) (xs : List A) (i : ℕ) → T (every i xs) → (k : ℕ) → k < length xs → T (f (i + k) (get_or xs k d))
  from d [] i t k h = absurd (not-suc-le-zero h)
  from d (x ∷ xs) i t zero h =
      subst (λ (m : ℕ). T (f m x)) (sym (add-zero i)) (and_left (f i x) (every (suc i) xs) t)
  from d (x ∷ xs) i t (suc k) h =
      subst (λ (m : ℕ). T (f m (get_or xs k d))) (suc-add i k ∙ sym (add-suc i k))
      (from d xs (suc i) (and_right (f i x) (every (suc i) xs) t) k (le_of_suc-le-suc h))

  pub at : (d : A) (xs : List A) → T (every 0 xs) → (k : ℕ) → k < length xs → T (f k (get_or xs k d))
  at d xs t k h = subst (λ (m : ℕ). T (f m (get_or xs k d))) (zero-add k) (from d xs 0 t k h)

-- ---- a rule of the numbers below a bound, by one test that is computed at each
abbrev pub all_below : (ℕ → Bool) → ℕ → Bool
all_below f zero = true
all_below f (suc n) = f n && all_below f n

pub below_all : (f : ℕ → Bool) (n : ℕ) → T (all_below f n) → (k : ℕ) → k < n → T (f k)
below_all f zero t k h = absurd (not-suc-le-zero h)
below_all f (suc n) t k h = go (dec_eq k n) (below_all f n (and_right (f n) (all_below f n) t) k)
  where
    go : Dec (k ≡ n) → (k < n → T (f k)) → T (f k)
    go (yes e) rest = subst (λ (m : ℕ). T (f m)) (sym e) (and_left (f n) (all_below f n) t)
    go (no e) rest = rest (omega arith)

-- two tests of a number of eight bits that agree at each
pub told : (f g : ℕ → Bool) → T (all_below (λ n. beq (f n) (g n)) 256) → (n : ℕ) → n < 256 → f n ≡ g n
told f g t n h = same-is (f n) (g n) (below_all (λ m. beq (f m) (g m)) 256 t n h)

-- and that agree where a third does not hold
pub told-unless : (x f g : ℕ → Bool) → T (all_below (λ n. x n || beq (f n) (g n)) 256) → (n : ℕ) → n < 256 → x n ≡ false → f n ≡ g n
told-unless x f g t n h e =
    same-is (f n) (g n) (subst (λ (b : Bool). T (b || beq (f n) (g n))) e (below_all (λ m. x m || beq (f m) (g m)) 256 t n h))

-- ---- the last arm of a match on a number of eight bits, which is for those that no other arm names; ks has the others' numbers, the last first
abbrev pub NoneOf : ℕ → List ℕ → Type 0
NoneOf n [] = Unit {0}
NoneOf n (k ∷ ks) = NoneOf n ks × (n ≡ k → ⊥)

pub not_named : (n : ℕ) (ks : List ℕ) → NoneOf n ks → named ks n ≡ false
not_named n [] r = refl
not_named n (k ∷ ks) r = rw (ne_eqb n k r.1) (not_named n ks r.0)

pub in-last : (ks : List ℕ) (f : ℕ → Bool) → T (all_below (λ n. named ks n || f n) 256) → (n : ℕ) → n < 256 → NoneOf n ks → f n ≡ true
in-last ks f t n h r = go (named ks n) (not_named n ks r) (below_all (λ m. named ks m || f m) 256 t n h)
  where
    is_true : (b : Bool) → T b → b ≡ true
    is_true true u = refl
    is_true false u = absurd u

    go : (b : Bool) → b ≡ false → T (b || f n) → f n ≡ true
    go true e u = absurd (true-not-false (sym e))
    go false e u = is_true (f n) u

-- of a list's numbers the first is left where it is none of the others
pub only-left : (k : ℕ) (ks : List ℕ) (n : ℕ) → named (k ∷ ks) n ≡ true → NoneOf n ks → n ≡ k
only-left k ks n e r = go (eqb n k) refl
  where
    go : (b : Bool) → eqb n k ≡ b → n ≡ k
    go true f = eqb-true n k f
    go false f = absurd (true-not-false (sym (not_named n ks r) ∙ sym (ap (λ (b : Bool). b || named ks n) f) ∙ e))

-- what holds at each number of a list holds at one that is of the list
abbrev pub Each : (ℕ → Type 0) → List ℕ → Type 0
Each P [] = Unit {0}
Each P (k ∷ ks) = P k × Each P ks

pub each-named : (P : ℕ → Type 0) (ks : List ℕ) → Each P ks → (n : ℕ) → named ks n ≡ true → P n
each-named P [] a n e = absurd (true-not-false e)
each-named P (k ∷ ks) a n e = go (eqb n k) refl (each-named P ks a.1 n)
  where
    go : (b : Bool) → eqb n k ≡ b → (named ks n ≡ true → P n) → P n
    go true f rest = subst P (sym (eqb-true n k f)) a.0
    go false f rest = rest (sym (ap (λ (b : Bool). b || named ks n) f) ∙ e)
