-- Bits as places: what a replaced bit leaves of the others, over any width. A bit's digit is `x / 2 ^ i % 2`, as `bit` and `without_bit` have it.
-- Assumes nothing.
use mathlib.Core.Path.{◌≡◌, refl, sym, ap, ap₂, ◌∙◌, subst}
use mathlib.Core.Bool.{Bool, false, not, ◌&&◌}
use mathlib.Core.Logic.{⊎_elim}
use Prim.Native.Nat.{ℕ, zero, suc, ◌+◌, ◌-◌, ◌*◌, ◌/◌, ◌%◌, ◌^◌, ◌≤◌, ◌<◌, max}
use native.Mathlib.Nat.{le_trans, lt_of_lt_of_le, div-eq_of_lt, mod-lt, mod-le, mul-le-mul_right, div-mul-le_self, add-mul}
use native.Mathlib.Nat.{pow-suc, one-mul, div-add-mod', div-lt_iff_lt-mul, mod-one, div-one, zero-div, add_comm}
use native.Mathlib.Omega.{arith}
use native.Mathlib.Decide.{dec_lt}
use native.Mathlib.Numerals.{add-one}
use lib.Arith.{bin_ind, digits_mod, digits_div, digits_lt}
use lib.Bits.{bit_or, bit_and, or_shr, or_step, or_zero_l, or_add_and, and_le_r}
use lib.Pow.{pow_pos, pow_mono, pow-add, split, high, low, field, mod-mod-pow, mod-pow-add, shr-shr, shr_lt, shl_exact}
use lib.Count.{ones, ones_cat}
use lib.Dec.{lit<, ltb, eqb, eqb-suc-zero}
use borrow.Author.Tests.{ne_eqb, lt-ltb, le-ltb}
use Rattle.numbers.specs.Bits.{bit, with_bit}
use Rattle.numbers.specs.Working.{low_bits, complement}
use Rattle.numbers.specs.Choice.{pick}
use Rattle.numbers.proofs.Tests.{below_or_not}

-- ---- the digits of a number

-- the digit at i, 0 or 1
abbrev pub digit : ℕ → ℕ → ℕ
digit x i = x / 2 ^ i % 2

pub digit_lt : (x i : ℕ) → digit x i < 2
digit_lt x i = mod-lt (x / 2 ^ i) (omega arith)

pub digit-zero : (x : ℕ) → digit x 0 ≡ x % 2
digit-zero x = ap (λ (n : ℕ). n % 2) (div-one x)

pub digit-suc : (x i : ℕ) → digit (x / 2) i ≡ digit x (suc i)
digit-suc x i = ap (λ (n : ℕ). n % 2) (shr-shr x 1 i ∙ ap (λ (n : ℕ). x / 2 ^ n) (add_comm 1 i ∙ add-one i))

-- numbers with the same digits are the same
pub same_digits : (x y : ℕ) → ((i : ℕ) → digit x i ≡ digit y i) → x ≡ y
same_digits = bin_ind (λ (x : ℕ). (y : ℕ) → ((i : ℕ) → digit x i ≡ digit y i) → x ≡ y) none more
  where
    none : (y : ℕ) → ((i : ℕ) → digit 0 i ≡ digit y i) → 0 ≡ y
    none = bin_ind (λ (y : ℕ). ((i : ℕ) → digit 0 i ≡ digit y i) → 0 ≡ y) (λ h. refl)
        (λ y ih h.
        let half : 0 ≡ y / 2 = ih (λ i. ap (λ (n : ℕ). n % 2) (zero-div (2 ^ i) ∙ sym (zero-div (2 ^ suc i))) ∙ h (suc i) ∙ sym (digit-suc y i)) in
        let last : 0 ≡ y % 2 = h 0 ∙ digit-zero y in
        omega arith)

    more : (x : ℕ) → ((y : ℕ) → ((i : ℕ) → digit (x / 2) i ≡ digit y i) → x / 2 ≡ y) → (y : ℕ) → ((i : ℕ) → digit x i ≡ digit y i) → x ≡ y
    more x ih y h =
        let half : x / 2 ≡ y / 2 = ih (y / 2) (λ i. digit-suc x i ∙ h (suc i) ∙ sym (digit-suc y i)) in
        let last : x % 2 ≡ y % 2 = sym (digit-zero x) ∙ h 0 ∙ digit-zero y in
        omega arith

-- the digits below i are those of what is left by 2 ^ i
digit-mod : (x i j : ℕ) → j < i → digit (x % 2 ^ i) j ≡ digit x j
digit-mod x i j h =
    ap (λ (n : ℕ). x % 2 ^ n / 2 ^ j % 2) i-is
    ∙ ap (λ (n : ℕ). n % 2) (field x (i - suc j + 1) j)
    ∙ mod-mod-pow (x / 2 ^ j) (i - suc j) 1
  where
    i-is : i ≡ i - suc j + 1 + j
    i-is = omega arith

-- those above i are those of the number cut off at i + 1
digit-div : (x i j : ℕ) → i < j → digit (x / 2 ^ suc i) (j - suc i) ≡ digit x j
digit-div x i j h = ap (λ (n : ℕ). n % 2) (shr-shr x (suc i) (j - suc i) ∙ ap (λ (n : ℕ). x / 2 ^ n) j-is)
  where
    j-is : suc i + (j - suc i) ≡ j
    j-is = omega arith

-- the digits of the complement
pub digit-complement : (w x i : ℕ) → x < 2 ^ w → i < w → digit (complement w x) i ≡ 1 - digit x i
digit-complement zero x i small h = absurd (none h)
  where
    none : i < 0 → ⊥
    none g = omega arith
digit-complement (suc w) x zero small h =
    digit-zero (complement (suc w) x) ∙ ends (2 ^ suc w) (2 ^ w) (pow-suc 2 w) small ∙ ap (λ (n : ℕ). 1 - n) (sym (digit-zero x))
  where
    ends : (p q : ℕ) → p ≡ q * 2 → x < p → (p - 1 - x) % 2 ≡ 1 - x % 2
    ends p q e g = omega arith
digit-complement (suc w) x (suc i) small h =
    sym (digit-suc (complement (suc w) x) i)
    ∙ ap (λ (n : ℕ). digit n i) (half (2 ^ suc w) (2 ^ w) (pow-suc 2 w) small)
    ∙ digit-complement w (x / 2) i (less (2 ^ suc w) (2 ^ w) (pow-suc 2 w) small) (omega arith)
    ∙ ap (λ (n : ℕ). 1 - n) (digit-suc x i)
  where
    half : (p q : ℕ) → p ≡ q * 2 → x < p → (p - 1 - x) / 2 ≡ q - 1 - x / 2
    half p q e g = omega arith

    less : (p q : ℕ) → p ≡ q * 2 → x < p → x / 2 < q
    less p q e g = omega arith

-- what holds of 0 and of 1 holds of a digit
pub of-digit : (P : ℕ → Type 0) → P 0 → P 1 → (d : ℕ) → d < 2 → P d
of-digit P p q zero h = p
of-digit P p q (suc zero) h = q
of-digit P p q (suc (suc d)) h = absurd (big h)
  where
    big : suc (suc d) < 2 → ⊥
    big g = omega arith

-- of the complement, each bit is turned
pub bit-complement : (w x i : ℕ) → x < 2 ^ w → i < w → bit (complement w x) i ≡ not (bit x i)
bit-complement w x i small h =
    ap (λ (n : ℕ). eqb n 1) (digit-complement w x i small h)
    ∙ of-digit (λ (d : ℕ). eqb (1 - d) 1 ≡ not (eqb d 1)) refl refl (digit x i) (digit_lt x i)

-- a test of a bit, counted
pub bit-counts : (x i : ℕ) → pick (bit x i) 1 0 ≡ digit x i
bit-counts x i = of-digit (λ (d : ℕ). pick (eqb d 1) 1 0 ≡ d) refl refl (digit x i) (digit_lt x i)

-- a test of a digit
pub bit_is : (x i d : ℕ) → digit x i ≡ d → bit x i ≡ eqb d 1
bit_is x i d e = ap (λ (n : ℕ). eqb n 1) e

-- ---- the n lowest bits, and the ones among them

-- a number has no ones beyond its width
pub bit-above : (x n i : ℕ) → x < 2 ^ n → n ≤ i → bit x i ≡ false
bit-above x n i small h = bit_is x i 0 (ap (λ (m : ℕ). m % 2) (div-eq_of_lt (lt_of_lt_of_le small (pow_mono h))))

-- a bit of them is one of those below n
pub bit_below : (x n i : ℕ) → bit (low_bits x n) i ≡ (ltb i n && bit x i)
bit_below x n i =
    ⊎_elim
    (λ (h : i < n). bit_is (low_bits x n) i _ (digit-mod x n i h) ∙ ap (λ (t : Bool). t && bit x i) (sym (lt-ltb i n h)))
    (λ (h : n ≤ i). bit-above (low_bits x n) n i (mod-lt x (pow_pos n)) h ∙ ap (λ (t : Bool). t && bit x i) (sym (le-ltb i n h)))
    (below_or_not i n)

pub one_shifted : (n w : ℕ) → n < w → 1 * 2 ^ n % 2 ^ w ≡ 2 ^ n
one_shifted n w h = shl_exact {a = 1} 1 n w (lit< tt) (omega arith) ∙ one-mul (2 ^ n)

pub none_below : (x : ℕ) → ones (low_bits x 0) ≡ 0
unfolding ones
none_below x = ap ones (mod-one x)

-- one bit more
pub one-more-below : (x n : ℕ) → ones (low_bits x (suc n)) ≡ ones (low_bits x n) + digit x n
unfolding ones
one-more-below x n =
    ap ones (ap (λ (k : ℕ). x % 2 ^ k) (sym (add-one n) ∙ add_comm n 1) ∙ mod-pow-add x 1 n)
    ∙ ones_cat n (digit x n) (x % 2 ^ n) (mod-lt x (pow_pos n))
    ∙ ap (λ (d : ℕ). d + ones (x % 2 ^ n)) (of-digit (λ (d : ℕ). ones d ≡ d) refl refl (digit x n) (digit_lt x n))
    ∙ add_comm (digit x n) (ones (x % 2 ^ n))

-- ---- one bit replaced

-- what stands above bit i, the bit, and what stands below it
pub with-bit : (x i v : ℕ) → with_bit x i v ≡ (x / 2 ^ i / 2 * 2 + v) * 2 ^ i + x % 2 ^ i
with-bit x i v =
    let whole : x / 2 ^ i * 2 ^ i + x % 2 ^ i ≡ x = split x i in
    let top : (x / 2 ^ i / 2 * 2 + x / 2 ^ i % 2) * 2 ^ i ≡ x / 2 ^ i * 2 ^ i = ap (λ (n : ℕ). n * 2 ^ i) (div-add-mod' (x / 2 ^ i) 2) in
    joined (x / 2 ^ i * 2 ^ i) (x / 2 ^ i / 2 * 2 * 2 ^ i) (x / 2 ^ i % 2 * 2 ^ i) (v * 2 ^ i) (x % 2 ^ i) _ _ _ whole
    (add-mul (x / 2 ^ i / 2 * 2) (x / 2 ^ i % 2) (2 ^ i))
    top
    (add-mul (x / 2 ^ i / 2 * 2) v (2 ^ i))
  where
    joined : (q h d w r x t u : ℕ) → q + r ≡ x → t ≡ h + d → t ≡ q → u ≡ h + w → x - d + w ≡ u + r
    joined q h d w r x t u a b c e = omega arith

module _ (x i v : ℕ) where
  above : with_bit x i v / 2 ^ i ≡ x / 2 ^ i / 2 * 2 + v
  above = ap (λ (n : ℕ). n / 2 ^ i) (with-bit x i v) ∙ high (x / 2 ^ i / 2 * 2 + v) i (mod-lt x (pow_pos i))

  below : with_bit x i v % 2 ^ i ≡ x % 2 ^ i
  below = ap (λ (n : ℕ). n % 2 ^ i) (with-bit x i v) ∙ low (x / 2 ^ i / 2 * 2 + v) i (mod-lt x (pow_pos i))

  module _ (one : v < 2) where
    -- the bit itself
    pub digit-replaced : digit (with_bit x i v) i ≡ v
    digit-replaced = ap (λ (n : ℕ). n % 2) above ∙ digits_mod (x / 2 ^ i / 2) one

    pub bit-replaced : bit (with_bit x i v) i ≡ eqb v 1
    bit-replaced = ap (λ (n : ℕ). eqb n 1) digit-replaced

    beyond : with_bit x i v / 2 ^ suc i ≡ x / 2 ^ suc i
    beyond = over (with_bit x i v) ∙ ap (λ (n : ℕ). n / 2) above ∙ digits_div (x / 2 ^ i / 2) one ∙ sym (over x)
      where
        over : (y : ℕ) → y / 2 ^ suc i ≡ y / 2 ^ i / 2
        over y = ap (λ (n : ℕ). y / 2 ^ n) (sym (add-one i)) ∙ sym (shr-shr y i 1)

    -- any other bit
    pub digit-kept : (j : ℕ) → (j ≡ i → ⊥) → digit (with_bit x i v) j ≡ digit x j
    digit-kept j other = go (dec_lt j i) (dec_lt i j)
      where
        go : Dec (j < i) → Dec (i < j) → digit (with_bit x i v) j ≡ digit x j
        go (yes h) _ = sym (digit-mod (with_bit x i v) i j h) ∙ ap (λ (n : ℕ). digit n j) below ∙ digit-mod x i j h
        go (no _) (yes h) = sym (digit-div (with_bit x i v) i j h) ∙ ap (λ (n : ℕ). digit n (j - suc i)) beyond ∙ digit-div x i j h
        go (no a) (no b) = absurd (other (omega arith))

    pub bit_kept : (j : ℕ) → (j ≡ i → ⊥) → bit (with_bit x i v) j ≡ bit x j
    bit_kept j other = ap (λ (n : ℕ). eqb n 1) (digit-kept j other)

    -- no wider than before
    pub with-bit-lt : (n : ℕ) → x < 2 ^ n → i < n → with_bit x i v < 2 ^ n
    with-bit-lt n small h =
        subst (λ (y : ℕ). y < 2 ^ n) (sym (with-bit x i v))
        (subst (λ (y : ℕ). (x / 2 ^ i / 2 * 2 + v) * 2 ^ i + x % 2 ^ i < y) (sym wide)
        (digits_lt (digits_lt ((div-lt_iff_lt-mul (omega arith)).1 top) one) (mod-lt x (pow_pos i))))
      where
        n-is : n ≡ suc (n - suc i) + i
        n-is = omega arith

        wide : 2 ^ n ≡ 2 ^ (n - suc i) * 2 * 2 ^ i
        wide = ap (λ (k : ℕ). 2 ^ k) n-is ∙ pow-add 2 (suc (n - suc i)) i ∙ ap (λ (k : ℕ). k * 2 ^ i) (pow-suc 2 (n - suc i))

        top : x / 2 ^ i < 2 ^ (n - suc i) * 2
        top = subst (λ (k : ℕ). x / 2 ^ i < k) (pow-suc 2 (n - suc i)) (shr_lt (suc (n - suc i)) i (subst (λ (k : ℕ). x < 2 ^ k) n-is small))

-- two places are the same or not
pub dec_eq : (a b : ℕ) → Dec (a ≡ b)
dec_eq a b = go (dec_lt a b) (dec_lt b a)
  where
    go : Dec (a < b) → Dec (b < a) → Dec (a ≡ b)
    go (yes h) _ = no (λ e. omega arith)
    go (no _) (yes h) = no (λ e. omega arith)
    go (no p) (no q) = yes (omega arith)

-- ---- one bit replaced in a word of w bits, where a shift loses what goes past its end

-- what is shifted back is no more than what was there
pub shifted-back-le : (x i d w : ℕ) → d ≤ x / 2 ^ i → d * 2 ^ i % 2 ^ w ≤ x
shifted-back-le x i d w h = le_trans (mod-le (d * 2 ^ i) (2 ^ w)) (le_trans (mul-le-mul_right (2 ^ i) h) (div-mul-le_self x (2 ^ i)))

module _ (x i v w : ℕ) (one : v < 2) (h : i < w) where
  place_is : v * 2 ^ i % 2 ^ w ≡ v * 2 ^ i
  place_is = shl_exact {a = v} 1 i w one (omega arith)

  pub word-with-bit : x - digit x i * 2 ^ i % 2 ^ w + v * 2 ^ i % 2 ^ w ≡ with_bit x i v
  word-with-bit = ap₂ (λ (d n : ℕ). x - d + n) (shl_exact {a = digit x i} 1 i w (digit_lt x i) (omega arith)) place_is

  pub word-with-bit-lt : x < 2 ^ w → x - digit x i * 2 ^ i % 2 ^ w + v * 2 ^ i % 2 ^ w < 2 ^ w
  word-with-bit-lt small = subst (λ (n : ℕ). n < 2 ^ w) (sym word-with-bit) (with-bit-lt x i v one w small h)

-- ---- gathering by or

or-half : (a b : ℕ) → bit_or a b / 2 ≡ bit_or (a / 2) (b / 2)
or-half a b = or_shr a b 1

or-odd : (a b : ℕ) → bit_or a b % 2 ≡ max (a % 2) (b % 2)
or-odd a b = ap (λ (n : ℕ). n % 2) (or_step a b) ∙ digits_mod (bit_or (a / 2) (b / 2)) {m = 2} (omega arith)

-- `|` regroups
pub or_assoc : (a b c : ℕ) → bit_or (bit_or a b) c ≡ bit_or a (bit_or b c)
or_assoc =
    bin_ind (λ (a : ℕ). (b c : ℕ) → bit_or (bit_or a b) c ≡ bit_or a (bit_or b c)) (λ b c. ap (λ (n : ℕ). bit_or n c) (or_zero_l b)
    ∙ sym (or_zero_l (bit_or b c)))
    (λ a ih b c.
    or_step (bit_or a b) c
    ∙ ap₂ (λ (x y : ℕ). bit_or x (c / 2) * 2 + max y (c % 2)) (or-half a b) (or-odd a b)
    ∙ ap₂ (λ (x y : ℕ). x * 2 + y) (ih (b / 2) (c / 2)) (max3 (a % 2) (b % 2) (c % 2))
    ∙ sym (or_step a (bit_or b c) ∙ ap₂ (λ (x y : ℕ). bit_or (a / 2) x * 2 + max (a % 2) y) (or-half b c) (or-odd b c)))
  where
    max3 : (x y z : ℕ) → max (max x y) z ≡ max x (max y z)
    max3 x y z = omega arith

-- nothing was gathered exactly where nothing was to gather
pub or-none : (a b : ℕ) → eqb (bit_or a b) 0 ≡ (eqb a 0 && eqb b 0)
or-none zero b = ap (λ (n : ℕ). eqb n 0) (or_zero_l b)
or-none (suc a) b =
    ne_eqb (bit_or (suc a) b) 0 (some (or_add_and (suc a) b) (and_le_r (suc a) b))
    ∙ ap (λ (t : Bool). t && eqb b 0) (sym (eqb-suc-zero a))
  where
    some : bit_or (suc a) b + bit_and (suc a) b ≡ suc a + b → bit_and (suc a) b ≤ b → bit_or (suc a) b ≡ 0 → ⊥
    some p q e = omega arith
