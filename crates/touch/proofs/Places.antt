-- Lists of places: membership, meeting, and when two numbers name one place.
-- Assumes nothing.
use mathlib.Core.Path.{◌≡◌, refl, sym, ap, ap₂, ◌∙◌, subst}
use mathlib.Core.Logic.{◌⊎◌, inl, inr, ⊎_elim}
use mathlib.Core.Bool.{Bool, true, false, ◌&&◌, ◌||◌, or_assoc, or_comm, or-false}
use mathlib.Core.List.{List, [], ◌∷◌, ◌++◌}
use Prim.Native.Nat.{ℕ, zero, suc, ◌+◌, ◌*◌, ◌<◌}
use native.Mathlib.Omega.{arith}
use native.Mathlib.Decide.{ℕ_discrete}
use lib.Dec.{T, eqb}
use borrow.Author.Tests.{eq-eqb, ne_eqb}
use Rattle.order.specs.Order.{Mem, has}
use Rattle.touch.specs.Touch.{place_if, below, meet, conflict}
use Rattle.order.proofs.Tests.{same_bool, true-T, false-T, T-or-l, T-or-r, or-T, has→mem, mem→has}

-- ---- numbers of places

module _ (r s i j : ℕ) where
  pub elements_same : i < 64 → j < 64 → eqb (r * 64 + i) (s * 64 + j) ≡ (eqb i j && eqb r s)
  elements_same hi hj = go (ℕ_discrete i j) (ℕ_discrete r s)
    where
      go : Dec (i ≡ j) → Dec (r ≡ s) → eqb (r * 64 + i) (s * 64 + j) ≡ (eqb i j && eqb r s)
      go (yes e) (yes f) = eq-eqb (r * 64 + i) (s * 64 + j) (omega arith) ∙ sym (ap₂ (λ (x y : Bool). x && y) (eq-eqb i j e) (eq-eqb r s f))
      go (yes e) (no f) = ne_eqb (r * 64 + i) (s * 64 + j) (λ z. f (omega arith)) ∙ sym (ap₂ (λ (x y : Bool). x && y) (eq-eqb i j e) (ne_eqb r s f))
      go (no e) d = ne_eqb (r * 64 + i) (s * 64 + j) (λ z. e (omega arith)) ∙ sym (ap (λ (x : Bool). x && eqb r s) (ne_eqb i j e))

-- ---- membership

pub has-append : (x : ℕ) (xs ys : List ℕ) → has x (xs ++ ys) ≡ (has x xs || has x ys)
unfolding has
has-append x [] ys = refl
has-append x (y ∷ xs) ys = ap (λ (b : Bool). eqb x y || b) (has-append x xs ys) ∙ sym (or_assoc (eqb x y) (has x xs) (has x ys))

pub has_one : (x p : ℕ) → has x (p ∷ []) ≡ eqb x p
unfolding has
has_one x p = or-false (eqb x p)

pub has-place-if : (x : ℕ) (t : Bool) (p : ℕ) → has x (place_if t p) ≡ (t && eqb x p)
unfolding has
has-place-if x true p = or-false (eqb x p)
has-place-if x false p = refl

pub mem-append-l : (x : ℕ) (xs ys : List ℕ) → Mem x xs → Mem x (xs ++ ys)
mem-append-l x [] ys m = absurd m
mem-append-l x (y ∷ xs) ys (inl e) = inl e
mem-append-l x (y ∷ xs) ys (inr m) = inr (mem-append-l x xs ys m)

pub mem-append-r : (x : ℕ) (xs ys : List ℕ) → Mem x ys → Mem x (xs ++ ys)
mem-append-r x [] ys m = m
mem-append-r x (y ∷ xs) ys m = inr (mem-append-r x xs ys m)

pub mem-append : (x : ℕ) (xs ys : List ℕ) → Mem x (xs ++ ys) → Mem x xs ⊎ Mem x ys
mem-append x [] ys m = inr m
mem-append x (y ∷ xs) ys (inl e) = inl (inl e)
mem-append x (y ∷ xs) ys (inr m) = ⊎_elim (λ h. inl (inr h)) (λ h. inr h) (mem-append x xs ys m)

-- the places of a rising row
module _ (f : ℕ → ℕ) where
  pub →below : (k n : ℕ) → k < n → Mem (f k) (below n f)
  unfolding below
  →below k zero h = absurd (none h)
    where
      none : k < 0 → ⊥
      none g = omega arith
  →below k (suc n) h = go (ℕ_discrete k n) (→below k n)
    where
      go : Dec (k ≡ n) → (k < n → Mem (f k) (below n f)) → Mem (f k) (below n f ++ (f n ∷ []))
      go (yes e) on = mem-append-r (f k) (below n f) (f n ∷ []) (inl (ap f e))
      go (no e) on = mem-append-l (f k) (below n f) (f n ∷ []) (on (omega arith))

  pub below→ : (x n : ℕ) → Mem x (below n f) → (k : ℕ) × (k < n) × (x ≡ f k)
  unfolding below
  below→ x zero m = absurd m
  below→ x (suc n) m = ⊎_elim (λ h. up (below→ x n h)) last (mem-append x (below n f) (f n ∷ []) m)
    where
      up : (k : ℕ) × (k < n) × (x ≡ f k) → (k : ℕ) × (k < suc n) × (x ≡ f k)
      up w = (w.0, omega arith, w.2)

      last : Mem x (f n ∷ []) → (k : ℕ) × (k < suc n) × (x ≡ f k)
      last (inl e) = (n, omega arith, e)
      last (inr e) = absurd e

  pub has-below : (k n : ℕ) → k < n → has (f k) (below n f) ≡ true
  has-below k n h = true-T _ (mem→has (f k) (below n f) (→below k n h))

  pub has-not-below : (x n : ℕ) → ((k : ℕ) → k < n → x ≡ f k → ⊥) → has x (below n f) ≡ false
  has-not-below x n none = false-T _ (λ t. let w = below→ x n (has→mem x (below n f) t) in none w.0 w.1 w.2)

-- ---- meeting

pub meets : (xs ys : List ℕ) (x : ℕ) → Mem x xs → Mem x ys → T (meet xs ys)
unfolding meet
meets [] ys x m k = absurd m
meets (z ∷ xs) ys x (inl e) k = T-or-l (has z ys) (meet xs ys) (mem→has z ys (subst (λ (w : ℕ). Mem w ys) e k))
meets (z ∷ xs) ys x (inr m) k = T-or-r (has z ys) (meet xs ys) (meets xs ys x m k)

meeting : (xs ys : List ℕ) → T (meet xs ys) → (x : ℕ) × Mem x xs × Mem x ys
unfolding meet
meeting [] ys t = absurd t
meeting (z ∷ xs) ys t = ⊎_elim (λ h. (z, inl refl, has→mem z ys h)) (λ h. later (meeting xs ys h)) (or-T (has z ys) (meet xs ys) t)
  where
    later : (x : ℕ) × Mem x xs × Mem x ys → (x : ℕ) × Mem x (z ∷ xs) × Mem x ys
    later w = (w.0, inr w.1, w.2)

pub meet_comm : (xs ys : List ℕ) → meet xs ys ≡ meet ys xs
meet_comm xs ys = same_bool (meet xs ys) (meet ys xs) (turn xs ys) (turn ys xs)
  where
    turn : (xs ys : List ℕ) → T (meet xs ys) → T (meet ys xs)
    turn xs ys t = let w = meeting xs ys t in meets ys xs w.0 w.2 w.1

pub meet_one : (p : ℕ) (ys : List ℕ) → meet (p ∷ []) ys ≡ has p ys
unfolding meet
meet_one p ys = or-false (has p ys)

pub meet-append : (xs ys zs : List ℕ) → meet (xs ++ ys) zs ≡ (meet xs zs || meet ys zs)
unfolding meet
meet-append [] ys zs = refl
meet-append (x ∷ xs) ys zs = ap (λ (b : Bool). has x zs || b) (meet-append xs ys zs) ∙ sym (or_assoc (has x zs) (meet xs zs) (meet ys zs))

pub meet-place-if : (t : Bool) (p : ℕ) (zs : List ℕ) → meet (place_if t p) zs ≡ (t && has p zs)
unfolding meet
meet-place-if true p zs = or-false (has p zs)
meet-place-if false p zs = refl

-- what conflicts one way conflicts the other
pub conflict-comm : (ra wa rb wb : List ℕ) → conflict ra wa rb wb ≡ conflict rb wb ra wa
unfolding conflict
conflict-comm ra wa rb wb =
    ap₂ (λ (x y : Bool). x || y) (ap₂ (λ (x y : Bool). x || y) (meet_comm wa wb) (meet_comm wa rb)) (meet_comm ra wb)
    ∙ swapped (meet wb wa) (meet rb wa) (meet wb ra)
  where
    swapped : (a b c : Bool) → (a || b || c) ≡ (a || c || b)
    swapped true b c = refl
    swapped false b c = or_comm b c
