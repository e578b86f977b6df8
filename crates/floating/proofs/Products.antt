-- The product of two words, from the product of their significands. Over the format. Assumes nothing.
use Rattle.std.proofs.Common.{◌≡◌, ℕ, ◌+◌, ◌-◌, ◌*◌, ◌/◌, ◌%◌, ◌^◌, ◌<◌, ◌≤◌, Bool, true, false, ◌||◌, eqb, ◌⊎◌, sym, refl, ap, ◌∙◌, ap₂, inl, inr, mul_assoc, mul_comm, eq-zero-or-pos, mul-pos, mul-zero, zero-mul, mul_left_comm, arith, pow_pos, pow-add, eq-eqb, ne_eqb, eqb-true}
use borrow.Author.Tests.{eqb-false}
use Rattle.numbers.specs.Choice.{pick}
use Rattle.floating.specs.declared.Delivery.TheVariants.{Word}
use Rattle.floating.specs.Format.{Format, sign_of, exponent_of, significand_of, is_reserved}
use Rattle.floating.specs.Exact.{size_of, value_of, times}
use Rattle.floating.specs.Delivered.{delivered}
use Rattle.floating.specs.Operations.{answered, product}
use Rattle.floating.specs.Working.{placed}
use Rattle.floating.proofs.Arithmetic.{pow-two}
use Rattle.floating.proofs.Delivering.{delivered-zero, delivered-floor, delivered-same}
use Rattle.floating.proofs.Refusing.{answer_word, answer-reserved, refused, passed, numbers-passed}

-- ---- the size of a word
module _ (f : Format) (w : ℕ) where
  pub size_none : exponent_of f w ≡ 0 → size_of f w ≡ 0
  size_none h = simp (eq-eqb (exponent_of f w) 0 h)

  pub size-some : (exponent_of f w ≡ 0 → ⊥) → size_of f w ≡ significand_of f w * 2 ^ exponent_of f w
  size-some h = simp (ne_eqb (exponent_of f w) 0 h)

  -- by the fields, as the code has them
  pub size-fields : (e m : ℕ) → e ≡ exponent_of f w → (e ≡ 0 → ⊥) → m ≡ significand_of f w → size_of f w ≡ m * 2 ^ e
  size-fields e m he ne hm = size-some (λ z. ne (he ∙ z)) ∙ ap (λ (z : ℕ). z * 2 ^ exponent_of f w) (sym hm) ∙ ap (λ (z : ℕ). m * 2 ^ z) (sym he)

module _ (f : Format) (a b : ℕ) where
  -- one of the two is zero
  pub no-product : ((exponent_of f a ≡ 0 → ⊥) → exponent_of f b ≡ 0) → Word 0 ≡ delivered f (times (value_of f a) (value_of f b))
  no-product h = sym (delivered-zero f (times (value_of f a) (value_of f b)) (go (eq-zero-or-pos (exponent_of f a))))
    where
      go : (exponent_of f a ≡ 0) ⊎ (0 < exponent_of f a) → size_of f a * size_of f b ≡ 0
      go (inl e) = ap (λ (z : ℕ). z * size_of f b) (size_none f a e) ∙ zero-mul (size_of f b)
      go (inr p) = ap (λ (z : ℕ). size_of f a * z) (size_none f b (h (λ z. omega arith))) ∙ mul-zero (size_of f a)

  -- neither is: the product of the significands, as n digits, at the sum of the exponents
  pub product-placed : (n s ea eb ma mb x : ℕ) → n - f.bits ≤ f.bits + f.excess → s ≡ (sign_of f a + sign_of f b) % 2 → ea ≡ exponent_of f a
      → eb ≡ exponent_of f b
      → (exponent_of f a ≡ 0 → ⊥) → (exponent_of f b ≡ 0 → ⊥) → ma ≡ significand_of f a → mb ≡ significand_of f b → x ≡ ma * mb
      → delivered f (placed f n s x (ea + eb) (f.bits + f.excess - (n - f.bits))) ≡ product f a b
  product-placed n s ea eb ma mb x room hs hea heb na nb hma hmb hx =
      let w = f.bits + f.excess in
      let k = n - f.bits in
      let one : size_of f a ≡ ma * 2 ^ ea = size-fields f a ea ma hea (λ v. na (sym hea ∙ v)) hma in
      let two : size_of f b ≡ mb * 2 ^ eb = size-fields f b eb mb heb (λ v. nb (sym heb ∙ v)) hmb in
      let back : w - k + k ≡ w = omega arith in
      let E : x * 2 ^ (ea + eb) * (2 ^ w * 2 ^ w) ≡ size_of f a * size_of f b * (2 ^ (w - k + k) * 2 ^ w) =
      ap₂ (λ (y z : ℕ). y * 2 ^ (ea + eb) * (2 ^ z * 2 ^ w)) hx (sym back)
      ∙ joined ma mb ea eb (2 ^ (w - k + k) * 2 ^ w)
      ∙ ap₂ (λ (y z : ℕ). y * z * (2 ^ (w - k + k) * 2 ^ w)) (sym one) (sym two) in
      delivered-same f s (x * 2 ^ (ea + eb)) (2 ^ (w - k + k) * 2 ^ w) (size_of f a * size_of f b) (2 ^ w * 2 ^ w) (mul-pos (pow_pos (w - k + k)) (pow_pos w))
      (mul-pos (pow_pos w) (pow_pos w)) E
      ∙ ap (λ (y : ℕ). delivered f (record { sign = y; num = size_of f a * size_of f b; den = 2 ^ w * 2 ^ w })) hs
      ∙ numbers-passed f a b (delivered f (times (value_of f a) (value_of f b))) na nb
    where
      joined : (u v i j d : ℕ) → u * v * 2 ^ (i + j) * d ≡ u * 2 ^ i * (v * 2 ^ j) * d
      joined u v i j d = simp (pow-add, mul_assoc, mul_comm, mul_left_comm)

  -- neither is: the product of the significands without its last k digits, where more are left than are kept, as n digits, at the sum of the exponents
  pub product-cut : (n k s ea eb ma mb x : ℕ) → 0 < f.bits → n - f.bits + k ≤ f.bits + f.excess → s ≡ (sign_of f a + sign_of f b) % 2
      → ea ≡ exponent_of f a → eb ≡ exponent_of f b → (exponent_of f a ≡ 0 → ⊥) → (exponent_of f b ≡ 0 → ⊥) → ma ≡ significand_of f a → mb ≡ significand_of f b
      → x ≡ ma * mb / 2 ^ k → 2 ^ f.bits ≤ x
      → delivered f (placed f n s x (ea + eb) (f.bits + f.excess - (n - f.bits + k))) ≡ product f a b
  product-cut n k s ea eb ma mb x P room hs hea heb na nb hma hmb hx long =
      let w = f.bits + f.excess in
      let j = n - f.bits in
      let up = ea + eb in
      let down = w - k + w in
      let one : size_of f a ≡ ma * 2 ^ ea = size-fields f a ea ma hea (λ v. na (sym hea ∙ v)) hma in
      let two : size_of f b ≡ mb * 2 ^ eb = size-fields f b eb mb heb (λ v. nb (sym heb ∙ v)) hmb in
      let den : 2 ^ (w - (j + k) + j) * 2 ^ w ≡ 2 ^ down = pow-two (w - (j + k) + j) w down (back w j k room) in
      let whole : 2 ^ k * 2 ^ down ≡ 2 ^ w * 2 ^ w = pow-two k down (w + w) (all w j k room) ∙ pow-add 2 w w in
      let E : ma * mb * 2 ^ up * (2 ^ w * 2 ^ w) ≡ size_of f a * size_of f b * (2 ^ k * 2 ^ down) =
      joined ma mb ea eb (2 ^ w * 2 ^ w)
      ∙ ap₂ (λ (y z : ℕ). y * z * (2 ^ w * 2 ^ w)) (sym one) (sym two)
      ∙ ap (λ (y : ℕ). size_of f a * size_of f b * y) (sym whole) in
      ap (λ (y : ℕ). delivered f (record { sign = s; num = x * 2 ^ up; den = y })) den
      ∙ sym (delivered-floor f s (ma * mb) (2 ^ k) x up down P (pow_pos k) hx long)
      ∙ delivered-same f s (ma * mb * 2 ^ up) (2 ^ k * 2 ^ down) (size_of f a * size_of f b) (2 ^ w * 2 ^ w) (mul-pos (pow_pos k) (pow_pos down))
      (mul-pos (pow_pos w) (pow_pos w)) E
      ∙ ap (λ (y : ℕ). delivered f (record { sign = y; num = size_of f a * size_of f b; den = 2 ^ w * 2 ^ w })) hs
      ∙ numbers-passed f a b (delivered f (times (value_of f a) (value_of f b))) na nb
    where
      joined : (u v i j d : ℕ) → u * v * 2 ^ (i + j) * d ≡ u * 2 ^ i * (v * 2 ^ j) * d
      joined u v i j d = simp (pow-add, mul_assoc, mul_comm, mul_left_comm)

      back : (w j k : ℕ) → j + k ≤ w → w - (j + k) + j + w ≡ w - k + w
      back w j k h = omega arith

      all : (w j k : ℕ) → j + k ≤ w → k + (w - k + w) ≡ w + w
      all w j k h = omega arith

-- ---- as the code makes it
pub sign-chosen : (f : Format) (a b s t r : ℕ) → s ≡ sign_of f a → t ≡ sign_of f b → r ≡ pick (eqb s t) 0 1 → (r ≡ (sign_of f a + sign_of f b) % 2) × (r < 2)
sign-chosen f a b s t r hs ht hr = go (eqb s t) refl hr
  where
    go : (p : Bool) → eqb s t ≡ p → r ≡ pick p 0 1 → (r ≡ (sign_of f a + sign_of f b) % 2) × (r < 2)
    go true e h = let g : s ≡ t = eqb-true s t e in (omega arith, omega arith)
    go false e h = let g : (s ≡ t → ⊥) = eqb-false s t e in (omega (arith, g), omega arith)

pub special-product : (f : Format) (a b : ℕ) (p q : Bool) (v y : ℕ) → ((exponent_of f a ≡ 0 → ⊥) → exponent_of f b ≡ 0) → p ≡ is_reserved f a
    → q ≡ is_reserved f b
    → v ≡ pick (p || q) 0x8004 0 → y ≡ pick (p || q) 4 0 → (exc : Bool) → record { value = v; types = y } ≡ answered exc (product f a b)
special-product f a b p q v y h hp hq hv hy exc =
    ap (λ (z : ℕ). record { value = z; types = y }) hv ∙ ap (λ (z : ℕ). record { value = pick (p || q) 0x8004 0; types = z }) hy ∙ go (p || q) refl
  where
    go : (t : Bool) → (p || q) ≡ t → record { value = pick t 0x8004 0; types = pick t 4 0 } ≡ answered exc (product f a b)
    go true e = answer-reserved exc (product f a b)
        (refused (is_reserved f a) (is_reserved f b) p q (delivered f (times (value_of f a) (value_of f b))) hp hq e)
    go false e =
        answer_word exc (product f a b) 0
        (no-product f a b h ∙ passed (is_reserved f a) (is_reserved f b) p q (delivered f (times (value_of f a) (value_of f b))) hp hq e)
