-- The quotient of two words, from the whole part of the quotient of their significands. Over the format. Assumes nothing.
use Rattle.std.proofs.Common.{◌≡◌, ℕ, ◌+◌, ◌-◌, ◌*◌, ◌/◌, ◌%◌, ◌^◌, ◌<◌, ◌≤◌, Bool, true, false, ◌&&◌, eqb, ltb, sym, refl, ap, ◌∙◌, ap₂, le_trans, le_of_eq, lt_of_lt_of_le, lt_of_le_of_lt, mul-le-mul_right, mul_assoc, mul_comm, div-lt_iff_lt-mul, mul-lt-mul_of_pos_right, mul-pos, le-div_iff_mul-le, zero-mul, mul_left_comm, arith, lit<, pow_pos, pow-add, ltb-false, ltb-true, ne_eqb, eqb-true}
use borrow.Author.Tests.{eqb-false}
use Rattle.numbers.specs.Choice.{pick}
use Rattle.floating.specs.declared.Flagged.{Flagged}
use Rattle.floating.specs.declared.Delivery.{Delivery}
use Rattle.floating.specs.declared.Delivery.TheVariants.{Word, Reserved, DivisionByZero, ReservedByZero}
use Rattle.floating.specs.Format.{Format, sign_of, exponent_of, significand_of, is_zero, is_reserved}
use Rattle.floating.specs.Exact.{size_of, value_of, over}
use Rattle.floating.specs.Delivered.{delivered}
use Rattle.floating.specs.Operations.{answered, both, quotient}
use Rattle.floating.specs.Working.{placed, special_quotient_type}
use Rattle.floating.proofs.Arithmetic.{pow-two, double-power}
use Rattle.floating.proofs.Delivering.{delivered-zero, delivered-floor, delivered-same}
use Rattle.floating.proofs.Refusing.{numbers-passed}
use Rattle.floating.proofs.Products.{size_none, size-fields}
use Rattle.floating.proofs.Packing.{sign-lt}

-- ---- the cases of a quotient
module _ (f : Format) (a b : ℕ) where
  abbrev delivered-quotient : Delivery
  delivered-quotient = delivered f (over (value_of f a) (value_of f b))

  by_number : is_zero f b ≡ false → both f over a b ≡ quotient f a b
  by_number h = go (is_reserved f a) ∙ ap (λ (z : Bool). pick (is_reserved f a && z) ReservedByZero (pick z DivisionByZero (both f over a b))) (sym h)
    where
      go : (p : Bool) → both f over a b ≡ pick (p && false) ReservedByZero (both f over a b)
      go true = refl
      go false = refl

  -- the dividend is zero
  zero-quotient : exponent_of f a ≡ 0 → Word 0 ≡ delivered-quotient
  zero-quotient h =
      let w = f.bits + f.excess in
      let none : size_of f a * 2 ^ w ≡ 0 = ap (λ (z : ℕ). z * 2 ^ w) (size_none f a h) ∙ zero-mul (2 ^ w) in
      sym (delivered-zero f (over (value_of f a) (value_of f b)) none)

  -- ---- neither is zero or reserved: x is the whole part of ma, moved up u places, over mb, and has more digits than are kept
  module _ (s u ea eb ma mb x : ℕ) (P : 0 < f.bits) (B : 0 < mb) (hs : s ≡ (sign_of f a + sign_of f b) % 2)
      (hea : ea ≡ exponent_of f a) (na : exponent_of f a ≡ 0 → ⊥) (heb : eb ≡ exponent_of f b) (nb : exponent_of f b ≡ 0 → ⊥)
      (hma : ma ≡ significand_of f a) (hmb : mb ≡ significand_of f b)
    where
      pub quotient-placed : x ≡ ma * 2 ^ u / mb → 2 ^ f.bits ≤ x
          → delivered f (placed f (f.bits + 1) s x (ea + (f.bits + f.excess + 1)) (eb + u)) ≡ quotient f a b
      quotient-placed hx long =
          let w = f.bits + f.excess in
          let up = ea + (w + 1) in
          let down = eb + u + 1 + w in
          let one : size_of f a ≡ ma * 2 ^ ea = size-fields f a ea ma hea (λ v. na (sym hea ∙ v)) hma in
          let two : size_of f b ≡ mb * 2 ^ eb = size-fields f b eb mb heb (λ v. nb (sym heb ∙ v)) hmb in
          let more : f.bits + 1 - f.bits ≡ 1 = one_more f.bits in
          let den : 2 ^ (eb + u + (f.bits + 1 - f.bits)) * 2 ^ w ≡ 2 ^ down =
          ap (λ (k : ℕ). 2 ^ (eb + u + k) * 2 ^ w) more ∙ pow-two (eb + u + 1) w down refl in
          let E : ma * 2 ^ u * 2 ^ up * (2 ^ w * size_of f b) ≡ size_of f a * 2 ^ w * (mb * 2 ^ down) =
          ap (λ (y : ℕ). ma * 2 ^ u * 2 ^ up * (2 ^ w * y)) two ∙ joined ma mb ea eb w u ∙ ap (λ (y : ℕ). y * 2 ^ w * (mb * 2 ^ down)) (sym one) in
          ap (λ (y : ℕ). delivered f (record { sign = s; num = x * 2 ^ up; den = y })) den
          ∙ sym (delivered-floor f s (ma * 2 ^ u) mb x up down P B hx long)
          ∙ delivered-same f s (ma * 2 ^ u * 2 ^ up) (mb * 2 ^ down) (size_of f a * 2 ^ w) (2 ^ w * size_of f b) (mul-pos B (pow_pos down))
          (mul-pos (pow_pos w) (positive two)) E
          ∙ ap (λ (y : ℕ). delivered f (record { sign = y; num = size_of f a * 2 ^ w; den = 2 ^ w * size_of f b })) hs
          ∙ numbers-passed f a b delivered-quotient na nb
          ∙ by_number (simp (ne_eqb (exponent_of f b) 0 nb))
        where
          one_more : (p : ℕ) → p + 1 - p ≡ 1
          one_more p = omega arith

          positive : size_of f b ≡ mb * 2 ^ eb → 0 < size_of f b
          positive e = lt_of_lt_of_le (mul-pos B (pow_pos eb)) (le_of_eq (sym e))

          joined : (x y i j l u : ℕ) → x * 2 ^ u * 2 ^ (i + (l + 1)) * (2 ^ l * (y * 2 ^ j)) ≡ x * 2 ^ i * 2 ^ l * (y * 2 ^ (j + u + 1 + l))
          joined x y i j l u = simp (pow-add, mul_assoc, mul_comm, mul_left_comm)

-- what is neither zero nor reserved has an exponent
some_number : (f : Format) (w : ℕ) → is_zero f w ≡ false → is_reserved f w ≡ false → exponent_of f w ≡ 0 → ⊥
some_number f w hz hr e = go (eqb (exponent_of f w) 0) (eqb (sign_of f w) 0) (eqb (sign_of f w) 1) refl refl refl hz hr
  where
    go : (x y z : Bool) → eqb (exponent_of f w) 0 ≡ x → eqb (sign_of f w) 0 ≡ y → eqb (sign_of f w) 1 ≡ z → pick x y false ≡ false → pick x z false ≡ false → ⊥
    go true true z ex ey ez p q = let u : ◌≡◌ {A = ℕ} 0 1 = cc in absurd (omega arith)
    go true false true ex ey ez p q = let u : ◌≡◌ {A = ℕ} 0 1 = cc in absurd (omega arith)
    go true false false ex ey ez p q =
        let l = sign-lt f w in
        let n = eqb-false (sign_of f w) 0 ey in
        let m = eqb-false (sign_of f w) 1 ez in
        omega (arith, n, m)
    go false y z ex ey ez p q = eqb-false (exponent_of f w) 0 ex e

-- the type of an exception
type-small : (z p q : Bool) → special_quotient_type z p q < 8
type-small true true q = lit< tt
type-small true false q = lit< tt
type-small false p true = lit< tt
type-small false true false = lit< tt
type-small false false false = lit< tt

-- as the code works it out
module _ (Z P Q z p q : Bool) (hp : p ≡ P) (hq : q ≡ Q) (hz : z ≡ Z) where
  pub type-told : (x y o r : ℕ) → x ≡ pick p 6 2 → y ≡ pick p 4 0 → o ≡ pick q 4 y → r ≡ pick z x o → (r ≡ special_quotient_type Z P Q) × (r < 8)
  type-told x y o r hx hy ho hr =
      let told : r ≡ special_quotient_type z p q = hr ∙ ap₂ (pick z) hx (ho ∙ ap (pick q 4) hy) in
      let e : r ≡ special_quotient_type Z P Q = told ∙ ap (λ (t : Bool). special_quotient_type z t q) hp
      ∙ ap₂ (λ (t u : Bool). special_quotient_type t P u) hz hq in
      (e, lt_of_le_of_lt (le_of_eq e) (type-small Z P Q))

-- the word of an exception of a type, or zero
abbrev excepted : ℕ → Flagged
excepted t = record { value = pick (eqb t 0) 0 (0x8000 + t); types = t }

-- one of the two is zero or reserved; with no exception the dividend is zero and the divisor a number
module _ (f : Format) (a b t v : ℕ) (h : (exponent_of f a ≡ 0 → ⊥) → exponent_of f b ≡ 0) where
  dividend : is_zero f b ≡ false → is_reserved f b ≡ false → (t : Bool) → eqb (exponent_of f a) 0 ≡ t → exponent_of f a ≡ 0
  dividend hz hq true g = eqb-true (exponent_of f a) 0 g
  dividend hz hq false g = absurd (some_number f b hz hq (h (eqb-false (exponent_of f a) 0 g)))

  pub special-quotient : t ≡ special_quotient_type (is_zero f b) (is_reserved f a) (is_reserved f b) → v ≡ pick (eqb t 0) 0 (0x8000 + t)
      → (exc : Bool) → record { value = v; types = t } ≡ answered exc (quotient f a b)
  special-quotient ht hv exc =
      ap (λ (z : ℕ). record { value = z; types = t }) hv
      ∙ ap excepted ht
      ∙ cases (is_zero f b) (is_reserved f a) (is_reserved f b) (delivered-quotient f a b)
      (λ hz _ hq. zero-quotient f a b (dividend hz hq (eqb (exponent_of f a) 0) refl))
    where
      given : (z p q : Bool) → Delivery → Delivery
      given z p q o = pick (p && z) ReservedByZero (pick z DivisionByZero (pick p Reserved (pick q Reserved o)))

      cases : (z p q : Bool) (o : Delivery) → (z ≡ false → p ≡ false → q ≡ false → Word 0 ≡ o)
          → excepted (special_quotient_type z p q) ≡ answered exc (given z p q o)
      cases true true q o h = refl
      cases true false q o h = refl
      cases false true true o h = refl
      cases false true false o h = refl
      cases false false true o h = refl
      cases false false false o h = ap (answered exc) (h refl refl refl)

-- ---- Two significands of p digits: one moved up p places, or one more where it is the smaller, over the other has p + 1 digits in its whole part.
module _ (p a b u : ℕ) (P : 0 < p) (alo : 2 ^ (p - 1) ≤ a) (ahi : a < 2 ^ p) (blo : 2 ^ (p - 1) ≤ b) (bhi : b < 2 ^ p) where
  abbrev Up : ℕ → Type 0
  Up u = (u ≤ p + 1) × (b * 2 ^ p ≤ a * 2 ^ u) × (a * 2 ^ u < b * 2 ^ (p + 1))

  next : (y : ℕ) → y * 2 ^ (p + 1) ≡ y * 2 * 2 ^ p
  next y = ap (λ (z : ℕ). y * z) (pow-add 2 p 1 ∙ mul_comm (2 ^ p) 2) ∙ sym (mul_assoc y 2 (2 ^ p))

  pub places-in : u ≡ pick (ltb a b) (p + 1) p → Up u
  places-in hu = rw hu (go (ltb a b) refl)
    where
      twice : 2 ^ (p - 1) * 2 ≡ 2 ^ p
      twice = double-power p P

      go : (t : Bool) → ltb a b ≡ t → Up (pick t (p + 1) p)
      go true e =
          let l : a < b = ltb-true a b e in
          let h : b ≤ a * 2 = omega (arith, twice) in
          (omega arith, le_trans (mul-le-mul_right (2 ^ p) h) (le_of_eq (sym (next a))), mul-lt-mul_of_pos_right l (pow_pos (p + 1)))
      go false e =
          let l : b ≤ a = ltb-false a b e in
          let h : a < b * 2 = omega (arith, twice) in
          (omega arith, mul-le-mul_right (2 ^ p) l, lt_of_lt_of_le (mul-lt-mul_of_pos_right h (pow_pos p)) (le_of_eq (sym (next b))))

-- the whole part
pub whole_in : (p n b : ℕ) → 0 < b → b * 2 ^ p ≤ n → n < b * 2 ^ (p + 1) → (2 ^ p ≤ n / b) × (n / b < 2 ^ (p + 1))
whole_in p n b B lo hi =
    ((le-div_iff_mul-le B).1 (le_trans (le_of_eq (mul_comm (2 ^ p) b)) lo), (div-lt_iff_lt-mul B).1 (lt_of_lt_of_le hi (le_of_eq (mul_comm b (2 ^ (p + 1))))))
