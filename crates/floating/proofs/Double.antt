-- Exact operations on binary64 numbers, by the value that a number has (`HasValue`): a power of two read from its bits, a whole number of few digits times a
-- power of two, and the bits of such a number, over the digits. The library chooses by `cond`. Assumes nothing.
use Rattle.std.proofs.Common.{◌≡◌, ℕ, suc, ◌+◌, ◌-◌, ◌*◌, ◌/◌, ◌%◌, ◌^◌, ◌<◌, ◌≤◌, Bool, true, false, cond, not, T, eqb, ltb, leb, ◌⊎◌, ℤ, pos, sym, refl, ap, ◌∙◌, subst, ap₂, inl, inr, le_trans, le_of_eq, lt_of_lt_of_le, lt_of_le_of_lt, le_of_lt, mul-le-mul_right, mul_assoc, mul_comm, add-mul, eq-zero-or-pos, le_antisymm, mul-pos, one-mul, lt_of_not-le, mul_right_comm, not-le_of_lt, mul-div_cancel, mul_left_comm, arith, lit<, eqb→eq, pow_pos, pow_mono, shl_lt, le-ltb, eq-eqb, ne_eqb, eqb-true, le-leb}
use native.Mathlib.Nat.{mul-mod_left, mul-mul-mul_comm}
use native.Mathlib.Nat.{eq_of_mul-eq-mul_right}
use lib.Dec.{not_T}
use lib.Arith.{digits_mod}
use lib.Ieee.{Float, nan, inf, fin, binary64, unlike, up, down, size, odd, round, mul, of_int, of_fields, of_bits, to_bits, nan_bits}
use lib.Ieee.Bits.{cond_no, nan_bits_above}
use borrow.Author.Tests.{lt-leb, eqb-false}
use Rattle.floating.specs.Format.{Format, sign_of, exponent_of, fraction_of, significand_of}
use Rattle.floating.specs.Reading.{double_bits}
use Rattle.floating.specs.Working.{Reads}
use Rattle.floating.proofs.Arithmetic.{pow-two, double-power}
use Rattle.floating.proofs.Packing.{Sound, fraction-lt}
use lib.Ieee.Digits.{size-lt, size-le}
use lib.Ieee.Fits.{down_pos}
use lib.Ieee.Exact.{HasValue, odd_sign, round_exact}
use lib.Ieee.Back.{round_whole}
use lib.Ieee.Scale.{round_same}

-- ---- from one fraction to another of the same size
rescale : (x : Float) (s : Bool) (w l num den : ℕ) → 0 < l → num * l ≡ w * den → HasValue x s w l → HasValue x s num den
rescale nan s w l num den p h v = v
rescale (inf t) s w l num den p h v = v
rescale (fin t m e) s w l num den p h v = (
  v.0,
  eq_of_mul-eq-mul_right l p (m * up e * den) (num * down e)
      (mul_right_comm (m * up e) den l
      ∙ ap (λ (x : ℕ). x * den) v.1
      ∙ mul_right_comm w (down e) den
      ∙ ap (λ (x : ℕ). x * down e) (sym h)
      ∙ mul_right_comm num l (down e)),
)

-- ---- a power of two, from its bits
of_bits_is : (b : ℕ)
    → of_bits binary64 b ≡ of_fields binary64 (leb 0x8000_0000_0000_0000 b) (b % 0x8000_0000_0000_0000 / 0x10_0000_0000_0000) (b % 0x10_0000_0000_0000)
unfolding of_bits
of_bits_is b = refl

differ : (x : ℕ) → suc x < 2047 → suc x ≡ 2047 → ⊥
differ x h e = omega arith

under_ones : (s : Bool) (t x : ℕ) → suc x < 2047 → of_fields binary64 s (suc x) t ≡ odd 53 s (0x10_0000_0000_0000 + t) x 1074
unfolding of_fields
under_ones s t x h =
    cond_no (eqb (suc x) 2047) (cond (eqb t 0) (inf s) nan) (odd 53 s (0x10_0000_0000_0000 + t) x 1074)
    (not_T (eqb (suc x) 2047) (λ (u : T (eqb (suc x) 2047)). differ x h (eqb→eq (suc x) 2047 u)))

module _ (s x : ℕ) (hs : s < 2) (h : suc x < 2047) where
  sign-is-top : leb 0x8000_0000_0000_0000 ((s * 2048 + suc x) * 0x10_0000_0000_0000) ≡ eqb s 1
  sign-is-top = go (eq-zero-or-pos s)
    where
      go : (s ≡ 0) ⊎ (0 < s) → leb 0x8000_0000_0000_0000 ((s * 2048 + suc x) * 0x10_0000_0000_0000) ≡ eqb s 1
      go (inl z) =
          let n : (s ≡ 1 → ⊥) = λ e. omega arith in
          lt-leb 0x8000_0000_0000_0000 ((s * 2048 + suc x) * 0x10_0000_0000_0000) (omega arith) ∙ sym (ne_eqb s 1 n)
      go (inr p) = le-leb 0x8000_0000_0000_0000 ((s * 2048 + suc x) * 0x10_0000_0000_0000) (omega arith) ∙ sym (eq-eqb s 1 (omega arith))

  below-sign : (s * 2048 + suc x) * 0x10_0000_0000_0000 % 0x8000_0000_0000_0000 ≡ suc x * 0x10_0000_0000_0000
  below-sign =
      let l : suc x * 0x10_0000_0000_0000 < 0x8000_0000_0000_0000 = omega arith in
      let e : (s * 2048 + suc x) * 0x10_0000_0000_0000 ≡ s * 0x8000_0000_0000_0000 + suc x * 0x10_0000_0000_0000 = omega arith in
      ap (λ (y : ℕ). y % 0x8000_0000_0000_0000) e ∙ digits_mod s l

  exp-is : suc x * 0x10_0000_0000_0000 / 0x10_0000_0000_0000 ≡ suc x
  exp-is = omega arith

  digits_are : (s * 2048 + suc x) * 0x10_0000_0000_0000 % 0x10_0000_0000_0000 ≡ 0
  digits_are = mul-mod_left (s * 2048 + suc x) 0x10_0000_0000_0000

  normal : of_bits binary64 ((s * 2048 + suc x) * 0x10_0000_0000_0000) ≡ odd 53 (eqb s 1) 0x10_0000_0000_0000 x 1074
  normal =
      let b = (s * 2048 + suc x) * 0x10_0000_0000_0000 in
      of_bits_is b
      ∙ ap (λ (t : Bool). of_fields binary64 t (b % 0x8000_0000_0000_0000 / 0x10_0000_0000_0000) (b % 0x10_0000_0000_0000)) sign-is-top
      ∙ ap (λ (y : ℕ). of_fields binary64 (eqb s 1) (y / 0x10_0000_0000_0000) (b % 0x10_0000_0000_0000)) below-sign
      ∙ ap (λ (y : ℕ). of_fields binary64 (eqb s 1) y (b % 0x10_0000_0000_0000)) exp-is
      ∙ ap (λ (y : ℕ). of_fields binary64 (eqb s 1) (suc x) y) digits_are
      ∙ under_ones (eqb s 1) 0 x h

  power-bits : HasValue (of_bits binary64 ((s * 2048 + suc x) * 0x10_0000_0000_0000)) (eqb s 1) (2 ^ 52 * 2 ^ x) (2 ^ 1074)
  power-bits = subst (λ (y : Float). HasValue y (eqb s 1) (2 ^ 52 * 2 ^ x) (2 ^ 1074)) (sym normal) (odd_sign 53 (eqb s 1) 0x10_0000_0000_0000 x 1074)

  -- bits below those of the infinity, whatever the sign, are no NaN's
  number-bits : T (not (nan_bits binary64 ((s * 2048 + suc x) * 0x10_0000_0000_0000)))
  number-bits =
      let l : suc x * 0x10_0000_0000_0000 ≤ 0x7ff0_0000_0000_0000 = omega arith in
      subst (λ (b : Bool). T (not b))
      (sym
      (nan_bits_above binary64 ((s * 2048 + suc x) * 0x10_0000_0000_0000)
      ∙ ap (λ (z : ℕ). ltb 0x7ff0_0000_0000_0000 z) below-sign
      ∙ le-ltb 0x7ff0_0000_0000_0000 (suc x * 0x10_0000_0000_0000) l))
      tt

-- the binary64 number with the sign s, the exponent field k and no digits is 2 ^ e units of 2 ^ -w, where k lies as far above 1023 as e above w
module _ (w s e k n : ℕ) (hs : s < 2) (least : 0 < k) (most : k < 2047) (K : k + w ≡ e + 1023) (hn : n ≡ s * 2048 + k) where
  field_is : s * 2048 + suc (k - 1) ≡ n
  field_is = omega arith

  pub scale : HasValue (of_bits binary64 (n * 0x10_0000_0000_0000)) (eqb s 1) (2 ^ e) (2 ^ w)
  scale =
      let l : suc (k - 1) < 2047 = omega arith in
      let x = of_bits binary64 (n * 0x10_0000_0000_0000) in
      let is : ℕ → Type 0 = λ (z : ℕ). HasValue (of_bits binary64 (z * 0x10_0000_0000_0000)) (eqb s 1) (2 ^ 52 * 2 ^ (k - 1)) (2 ^ 1074) in
      let v : HasValue x (eqb s 1) (2 ^ 52 * 2 ^ (k - 1)) (2 ^ 1074) = subst is field_is (power-bits s (k - 1) hs l) in
      let b : 52 + (k - 1) + w ≡ e + 1074 = omega arith in
      let same : 2 ^ e * 2 ^ 1074 ≡ 2 ^ 52 * 2 ^ (k - 1) * 2 ^ w =
      pow-two e 1074 (e + 1074) refl ∙ sym (ap (λ (z : ℕ). z * 2 ^ w) (pow-two 52 (k - 1) (52 + (k - 1)) refl) ∙ pow-two (52 + (k - 1)) w (e + 1074) b) in
      rescale x (eqb s 1) (2 ^ 52 * 2 ^ (k - 1)) (2 ^ 1074) (2 ^ e) (2 ^ w) (pow_pos 1074) same v

  pub no_nan : T (not (nan_bits binary64 (n * 0x10_0000_0000_0000)))
  no_nan = subst (λ (z : ℕ). T (not (nan_bits binary64 (z * 0x10_0000_0000_0000)))) field_is (number-bits s (k - 1) hs (omega arith))

-- ---- a whole number as a float, and times a power of two
of-whole : (n : ℕ) → n ≤ 2 ^ 53 → HasValue (of_int binary64 (pos n)) false n 1
unfolding of_int
of-whole n h = round_whole binary64 false n h

-- a product, by any fractions that the factors equal
times-is : (x y : Float) (t : Bool) (a c b d : ℕ) → 0 < c → 0 < d → HasValue x false a c → HasValue y t b d
    → mul binary64 x y ≡ round binary64 t (a * b) (c * d)
unfolding mul
times-is nan y t a c b d C D v w = absurd v
times-is (inf s) y t a c b d C D v w = absurd v
times-is (fin s m e) nan t a c b d C D v w = absurd w
times-is (fin s m e) (inf u) t a c b d C D v w = absurd w
times-is (fin s m e) (fin u n k) t a c b d C D v w =
    ap (λ (z : Bool). round binary64 z (m * up e * (n * up k)) (down e * down k)) (ap (λ (z : Bool). unlike z u) v.0 ∙ plain u ∙ w.0)
    ∙ round_same binary64 t (m * up e * (n * up k)) (down e * down k) (a * b) (c * d) (mul-pos (down_pos e) (down_pos k)) (mul-pos C D)
    (mul-mul-mul_comm (m * up e) (n * up k) c d
    ∙ ap (λ (z : ℕ). z * (n * up k * d)) v.1
    ∙ ap (λ (z : ℕ). a * down e * z) w.1
    ∙ mul-mul-mul_comm a (down e) b (down k))
  where
    plain : (u : Bool) → unlike false u ≡ u
    plain true = refl
    plain false = refl

-- ---- the bits of a finite number, by its size in units of 2 ^ -1074
to_bits_is : (s : Bool) (m : ℕ) (e : ℤ) (a : ℕ) → m * up e * 2 ^ 1074 / down e ≡ a
    → to_bits binary64 (fin s m e) ≡ cond s 0x8000_0000_0000_0000 0 + (size a - 53) * 0x10_0000_0000_0000 + a / 2 ^ (size a - 53)
unfolding to_bits
to_bits_is s m e a h = ap (λ (n : ℕ). cond s 0x8000_0000_0000_0000 0 + (size n - 53) * 0x10_0000_0000_0000 + n / 2 ^ (size n - 53)) h

size_is : (n j : ℕ) → 2 ^ j ≤ n → n < 2 ^ suc j → size n ≡ suc j
size_is n j lo hi = le_antisymm (size-le n (suc j) hi) (lt_of_not-le (λ (g : size n ≤ j). not-le_of_lt (lt_of_lt_of_le (size-lt n) (pow_mono g)) lo))

-- ---- a whole number m of p digits, times 2 ^ e units of 2 ^ -w, is m times 2 ^ j units of 2 ^ -1074, the smallest of binary64
module _ (p w m e j : ℕ) (J : j + w ≡ e + 1074) (few : p ≤ 53) (hi : m < 2 ^ p) where
  scaled : (x y : Float) (t : Bool) → p + j ≤ 2098 → HasValue x false m 1 → HasValue y t (2 ^ e) (2 ^ w) → HasValue (mul binary64 x y) t (m * 2 ^ e) (2 ^ w)
  scaled x y t room v u =
      let small : m < 2 ^ 53 = lt_of_lt_of_le hi (pow_mono few) in
      let fine : m * 2 ^ j < 2 ^ 2098 = lt_of_lt_of_le (shl_lt p j hi) (pow_mono room) in
      let same : m * 2 ^ e * 2 ^ 1074 ≡ m * 2 ^ j * 2 ^ w =
      mul_assoc m (2 ^ e) (2 ^ 1074)
      ∙ ap (λ (z : ℕ). m * z) (pow-two e 1074 (e + 1074) refl ∙ sym (pow-two j w (e + 1074) J))
      ∙ sym (mul_assoc m (2 ^ j) (2 ^ w)) in
      let product : mul binary64 x y ≡ round binary64 t (m * 2 ^ e) (2 ^ w) =
      times-is x y t m 1 (2 ^ e) (2 ^ w) (lit< tt) (pow_pos w) v u ∙ ap (λ (z : ℕ). round binary64 t (m * 2 ^ e) z) (one-mul (2 ^ w)) in
      subst (λ (z : Float). HasValue z t (m * 2 ^ e) (2 ^ w)) (sym product) (round_exact binary64 t (m * 2 ^ e) (2 ^ w) m j (pow_pos w) small fine same)

  -- its bits, where binary64 has 53 digits of it
  module _ (s : Bool) (first : 0 < p) (lo : 2 ^ (p - 1) ≤ m) (normal : 53 ≤ p + j) where
    size_of : size (m * 2 ^ j) ≡ p + j
    size_of =
        let a : p - 1 + j ≡ p + j - 1 = omega arith in
        let b : p + j ≡ suc (p + j - 1) = omega arith in
        size_is (m * 2 ^ j) (p + j - 1) (le_trans (le_of_eq (sym (pow-two (p - 1) j (p + j - 1) a))) (mul-le-mul_right (2 ^ j) lo))
        (subst (λ (z : ℕ). m * 2 ^ j < 2 ^ z) b (shl_lt p j hi))
        ∙ sym b

    kept-is : m * 2 ^ j / 2 ^ (p + j - 53) ≡ m * 2 ^ (53 - p)
    kept-is =
        let k = p + j - 53 in
        let a : 53 - p + k ≡ j = omega arith in
        ap (λ (z : ℕ). z / 2 ^ k) (ap (λ (z : ℕ). m * z) (sym (pow-two (53 - p) k j a)) ∙ sym (mul_assoc m (2 ^ (53 - p)) (2 ^ k)))
        ∙ mul-div_cancel (m * 2 ^ (53 - p)) (pow_pos k)

    value-bits : (x : Float) → HasValue x s (m * 2 ^ e) (2 ^ w)
        → to_bits binary64 x ≡ cond s 0x8000_0000_0000_0000 0 + (p + j - 53) * 0x10_0000_0000_0000 + m * 2 ^ (53 - p)
    value-bits nan v = absurd v
    value-bits (inf t) v = absurd v
    value-bits (fin t n d) v =
        let a = m * 2 ^ j in
        let k : size a - 53 ≡ p + j - 53 = ap (λ (z : ℕ). z - 53) size_of in
        ap (λ (z : Bool). to_bits binary64 (fin z n d)) v.0
        ∙ to_bits_is s n d a
        (ap (λ (z : ℕ). z / down d) (eq_of_mul-eq-mul_right (2 ^ e) (pow_pos e) (n * up d * 2 ^ 1074) (a * down d) whole) ∙ mul-div_cancel a (down_pos d))
        ∙ ap (λ (z : ℕ). cond s 0x8000_0000_0000_0000 0 + z * 0x10_0000_0000_0000 + a / 2 ^ z) k
        ∙ ap (λ (z : ℕ). cond s 0x8000_0000_0000_0000 0 + (p + j - 53) * 0x10_0000_0000_0000 + z) kept-is
      where
        shuffled : (a b c d : ℕ) → a * b * c * d ≡ a * d * c * b
        shuffled a b c d = simp (mul_assoc, mul_comm, mul_left_comm)

        whole : n * up d * 2 ^ 1074 * 2 ^ e ≡ m * 2 ^ j * down d * 2 ^ e
        whole =
            mul_assoc (n * up d) (2 ^ 1074) (2 ^ e)
            ∙ ap (λ (z : ℕ). n * up d * z)
            (mul_comm (2 ^ 1074) (2 ^ e) ∙ pow-two e 1074 (e + 1074) refl ∙ sym (mul_comm (2 ^ w) (2 ^ j) ∙ pow-two j w (e + 1074) J))
            ∙ sym (mul_assoc (n * up d) (2 ^ w) (2 ^ j))
            ∙ ap (λ (z : ℕ). z * 2 ^ j) v.1
            ∙ shuffled m (2 ^ e) (down d) (2 ^ j)

-- ---- a word's number
module _ (f : Format) (S : Sound f) (few : f.bits ≤ 53) (w : ℕ) where
  sign-is : (s : Bool) → eqb (sign_of f w) 1 ≡ s → cond s 0x8000_0000_0000_0000 0 ≡ sign_of f w * 0x8000_0000_0000_0000
  sign-is true h = let e : sign_of f w ≡ 1 = eqb-true (sign_of f w) 1 h in omega arith
  sign-is false h = let e : (sign_of f w ≡ 1 → ⊥) = eqb-false (sign_of f w) 1 h in omega arith

  -- the first bit of 53 is not among the bits, and adds one to the exponent field
  join : (a s e j x : ℕ) → j + (f.bits + f.excess) ≡ e + 1074 → 53 ≤ f.bits + j → a ≡ s * 0x8000_0000_0000_0000
      → a + (f.bits + j - 53) * 0x10_0000_0000_0000 + (2 ^ (f.bits - 1) + x) * 2 ^ (53 - f.bits) ≡ double_bits f s e x
  join a s e j x J normal h =
      let P = S.first in
      let one : 2 ^ (f.bits - 1) * 2 ^ (53 - f.bits) ≡ 0x10_0000_0000_0000 = pow-two (f.bits - 1) (53 - f.bits) 52 (omega arith) in
      let parts : (2 ^ (f.bits - 1) + x) * 2 ^ (53 - f.bits) ≡ 2 ^ (f.bits - 1) * 2 ^ (53 - f.bits) + x * 2 ^ (53 - f.bits) =
      add-mul (2 ^ (f.bits - 1)) x (2 ^ (53 - f.bits)) in
      let field : e + 1022 - f.excess ≡ f.bits + j - 53 + 1 = omega arith in
      let next : (e + 1022 - f.excess) * 0x10_0000_0000_0000 ≡ (f.bits + j - 53) * 0x10_0000_0000_0000 + 0x10_0000_0000_0000 = omega arith in
      omega arith

  -- as the code makes it: the significand as a whole number times a power of two
  pub number_read : (s e x j : ℕ) (y : Float) → j + (f.bits + f.excess) ≡ e + 1074 → 53 ≤ f.bits + j → f.bits + j ≤ 2098 → s ≡ sign_of f w
      → e ≡ exponent_of f w → x ≡ fraction_of f w
      → HasValue y (eqb s 1) (2 ^ e) (2 ^ (f.bits + f.excess)) → Reads f w (mul binary64 (of_int binary64 (pos (2 ^ (f.bits - 1) + x))) y)
  number_read s e x j y J normal room hs he hx v =
      let point = f.bits + f.excess in
      let m = 2 ^ (f.bits - 1) + x in
      let r = mul binary64 (of_int binary64 (pos m)) y in
      let lt : x < 2 ^ (f.bits - 1) = lt_of_le_of_lt (le_of_eq hx) (fraction-lt f S w) in
      let twice = double-power f.bits S.first in
      let hi : m < 2 ^ f.bits = omega arith in
      let lo : 2 ^ (f.bits - 1) ≤ m = omega arith in
      let whole = of-whole m (le_trans (le_of_lt hi) (pow_mono few)) in
      let p : HasValue r (eqb s 1) (m * 2 ^ e) (2 ^ point) = scaled f.bits point m e j J few hi (of_int binary64 (pos m)) y (eqb s 1) room whole v in
      let told = value-bits f.bits point m e j J few hi (eqb s 1) S.first lo normal r p in
      let top : cond (eqb s 1) 0x8000_0000_0000_0000 0 ≡ s * 0x8000_0000_0000_0000 =
      subst (λ (a : ℕ). cond (eqb a 1) 0x8000_0000_0000_0000 0 ≡ a * 0x8000_0000_0000_0000) (sym hs) (sign-is (eqb (sign_of f w) 1) refl) in
      let fields : double_bits f s e x ≡ double_bits f (sign_of f w) (exponent_of f w) (fraction_of f w) =
      ap (λ (a : ℕ). double_bits f a e x) hs ∙ ap₂ (double_bits f (sign_of f w)) he hx in
      record {
        value =
            subst (λ (a : ℕ). HasValue r (eqb a 1) (significand_of f w * 2 ^ exponent_of f w) (2 ^ point)) hs
            (subst (λ (a : ℕ). HasValue r (eqb s 1) (significand_of f w * 2 ^ a) (2 ^ point)) he
            (subst (λ (a : ℕ). HasValue r (eqb s 1) ((2 ^ (f.bits - 1) + a) * 2 ^ e) (2 ^ point)) hx p));
        bits = told ∙ join (cond (eqb s 1) 0x8000_0000_0000_0000 0) s e j x J normal top ∙ fields;
      }
