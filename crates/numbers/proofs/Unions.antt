-- A set of elements is the union of its elements, gathered in rising order by or. Assumes nothing.
use mathlib.Core.Path.{◌≡◌, refl, sym, ap, ap₂, ◌∙◌}
use mathlib.Core.Bool.{Bool, true, false, not, ◌&&◌, ◌||◌, or-false}
use mathlib.Core.Logic.{◌⊎◌, inl, inr}
use Prim.Native.Nat.{ℕ, zero, suc, ◌+◌, ◌-◌, ◌*◌, ◌%◌, ◌^◌, ◌≤◌, ◌<◌}
use native.Mathlib.Nat.{zero-div}
use native.Mathlib.Omega.{arith}
use lib.Bits.{bit_or, or_zero_r}
use lib.Dec.{eqb, ltb}
use lib.Pow.{pow_pos}
use borrow.Author.Tests.{eq-eqb, ne_eqb, lt-ltb, le-ltb}
use Rattle.numbers.specs.Bits.{bit, with_bit}
use Rattle.numbers.specs.Choice.{pick}
use Rattle.numbers.specs.Rising.{rising}
use Rattle.numbers.specs.Working.{low_bits, of_ones}
use Rattle.numbers.proofs.BitLaws.{bit-above, bit_below, bit-complement, bit-replaced, bit_kept, dec_eq}
use Rattle.numbers.proofs.SetBits.{ones-carry}
use Rattle.numbers.proofs.Sets.{same_bits, bit-none, bit-or}
use Rattle.numbers.proofs.Tests.{below_or_not}

-- ---- a set of one
pub one_bit : (i : ℕ) → with_bit 0 i 1 ≡ 2 ^ i
one_bit i = ap (λ (q : ℕ). 0 - q % 2 * 2 ^ i + 1 * 2 ^ i) (zero-div (2 ^ i)) ∙ alone (2 ^ i)
  where
    alone : (p : ℕ) → 0 - 0 % 2 * p + 1 * p ≡ p
    alone p = omega arith

pub bit-one : (i k : ℕ) → bit (2 ^ i) k ≡ eqb k i
bit-one i k = ap (λ (x : ℕ). bit x k) (sym (one_bit i)) ∙ at (dec_eq k i)
  where
    at : Dec (k ≡ i) → bit (with_bit 0 i 1) k ≡ eqb k i
    at (yes e) = ap (bit (with_bit 0 i 1)) e ∙ bit-replaced 0 i 1 (omega arith) ∙ sym (eq-eqb k i e)
    at (no e) = bit_kept 0 i 1 (omega arith) k e ∙ bit-none k ∙ sym (ne_eqb k i e)

-- ---- the first n
pub first-bits : (n k : ℕ) → bit (2 ^ n - 1) k ≡ ltb k n
first-bits n k = at (below_or_not k n)
  where
    whole : 2 ^ n - 1 ≡ 2 ^ n - 1 - 0
    whole = omega arith

    at : (k < n) ⊎ (n ≤ k) → bit (2 ^ n - 1) k ≡ ltb k n
    at (inl h) = ap (λ (x : ℕ). bit x k) whole ∙ bit-complement n 0 k (pow_pos n) h ∙ ap not (bit-none k) ∙ sym (lt-ltb k n h)
    at (inr h) = bit-above (2 ^ n - 1) n k (let p = pow_pos n in omega arith) h ∙ sym (le-ltb k n h)

pub first-ones : (w n : ℕ) → n ≤ w → low_bits (2 ^ w - 1) n ≡ 2 ^ n - 1
first-ones w n fits =
    same_bits (low_bits (2 ^ w - 1) n) (2 ^ n - 1)
    (λ k. bit_below (2 ^ w - 1) n k ∙ ap (λ (t : Bool). ltb k n && t) (first-bits w k) ∙ at k (below_or_not k n) ∙ sym (first-bits n k))
  where
    at : (k : ℕ) → (k < n) ⊎ (n ≤ k) → (ltb k n && ltb k w) ≡ ltb k n
    at k (inl h) = rw (lt-ltb k n h, lt-ltb k w (omega arith))
    at k (inr h) = rw (le-ltb k n h)

-- ---- the set of the chosen numbers below n, gathered one at a time
module _ (on : ℕ → Bool) where
  unfoldable pub chosen_below : ℕ → ℕ
  chosen_below zero = 0
  chosen_below (suc n) = bit_or (chosen_below n) (pick (on n) (2 ^ n) 0)

  pub chosen-bits : (n i : ℕ) → bit (chosen_below n) i ≡ (ltb i n && on i)
  unfolding chosen_below
  chosen-bits zero i = bit-none i ∙ sym (ap (λ (t : Bool). t && on i) (le-ltb i 0 (omega arith)))
  chosen-bits (suc n) i =
      bit-or (chosen_below n) (pick (on n) (2 ^ n) 0) i
      ∙ ap (λ (t : Bool). t || bit (pick (on n) (2 ^ n) 0) i) (chosen-bits n i)
      ∙ at (dec_eq i n)
    where
      of_none : (t : Bool) → bit (pick t (2 ^ n) 0) i ≡ (t && eqb i n)
      of_none true = bit-one n i
      of_none false = bit-none i

      older : (i ≡ n → ⊥) → ltb i n ≡ ltb i (suc n)
      older q = go (below_or_not i n)
        where
          go : (i < n) ⊎ (n ≤ i) → ltb i n ≡ ltb i (suc n)
          go (inl h) = lt-ltb i n h ∙ sym (lt-ltb i (suc n) (omega arith))
          go (inr h) = le-ltb i n h ∙ sym (le-ltb i (suc n) (omega arith))

      and-true : (t : Bool) → (t && true) ≡ t
      and-true true = refl
      and-true false = refl

      and_none : (t : Bool) → (t && false) ≡ false
      and_none true = refl
      and_none false = refl

      at : Dec (i ≡ n) → ((ltb i n && on i) || bit (pick (on n) (2 ^ n) 0) i) ≡ (ltb i (suc n) && on i)
      at (yes q) =
          ap₂ (λ (s u : Bool). s || u)
          (ap (λ (t : Bool). t && on i) (le-ltb i n (omega arith)))
          (of_none (on n) ∙ ap (λ (t : Bool). on n && t) (eq-eqb i n q) ∙ and-true (on n) ∙ ap on (sym q))
          ∙ sym (ap (λ (t : Bool). t && on i) (lt-ltb i (suc n) (omega arith)))
      at (no q) =
          ap (λ (u : Bool). (ltb i n && on i) || u) (of_none (on n) ∙ ap (λ (t : Bool). on n && t) (ne_eqb i n q) ∙ and_none (on n))
          ∙ or-false (ltb i n && on i)
          ∙ ap (λ (t : Bool). t && on i) (older q)

-- ---- a set, by its elements
abbrev pub joins : ℕ → ℕ → ℕ
joins i x = bit_or x (2 ^ i)

module _ (which : ℕ) where
  gathers : (n : ℕ) → rising (of_ones joins which) n 0 ≡ chosen_below (bit which) n
  unfolding rising of_ones chosen_below
  gathers zero = refl
  gathers (suc n) = ap (λ (x : ℕ). pick (bit which n) (joins n x) x) (gathers n) ∙ at (bit which n)
    where
      at : (t : Bool) → pick t (joins n (chosen_below (bit which) n)) (chosen_below (bit which) n) ≡ bit_or (chosen_below (bit which) n) (pick t (2 ^ n) 0)
      at true = refl
      at false = sym (or_zero_r (chosen_below (bit which) n))

  pub union : (n : ℕ) → which < 2 ^ n → rising (of_ones joins which) n 0 ≡ which
  union n small = gathers n ∙ same_bits (chosen_below (bit which) n) which (λ k. chosen-bits (bit which) n k ∙ at k (below_or_not k n))
    where
      at : (k : ℕ) → (k < n) ⊎ (n ≤ k) → (ltb k n && bit which k) ≡ bit which k
      at k (inl h) = rw (lt-ltb k n h)
      at k (inr h) = ap (λ (t : Bool). t && bit which k) (le-ltb k n h) ∙ sym (bit-above which n k small h)

-- ---- steps that gather the set that they are of beside what they do
pub beside : {A : Type 0} (f : ℕ → A → A) (which n : ℕ) (a : A) → which < 2 ^ n
    → rising (of_ones (λ i (s : A × ℕ). (f i s.0, joins i s.1)) which) n (a, 0) ≡ (rising (of_ones f which) n a, which)
beside f which n a small =
    ap₂ (λ (x : _) (y : ℕ). (x, y))
    (ones-carry (λ (s : _ × ℕ). s.0) (λ i s. (f i s.0, joins i s.1)) f which n (a, 0) (λ i s h. refl))
    (ones-carry (λ (s : _ × ℕ). s.1) (λ i s. (f i s.0, joins i s.1)) joins which n (a, 0) (λ i s h. refl) ∙ union which n small)
