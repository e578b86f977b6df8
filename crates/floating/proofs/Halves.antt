-- The product of two numbers from their halves of h digits, so that no product of more than h digits by h is made. Over the width h. Assumes nothing.
use Rattle.std.proofs.Common.{◌≡◌, ℕ, ◌+◌, ◌-◌, ◌*◌, ◌/◌, ◌%◌, ◌^◌, ◌<◌, ◌≤◌, sym, ap, ◌∙◌, ap₂, le_trans, le_of_eq, lt_of_lt_of_le, lt_of_le_of_lt, add_assoc, mul_assoc, mul_comm, div-lt_iff_lt-mul, add-mul, add_comm, div-add-mod', le-div_iff_mul-le, mul-add, mul_left_comm, arith, pow_pos, pow-add}
use native.Mathlib.Nat.{add_left_comm, div-div-eq-div-mul}
use native.Mathlib.Nat.{mul-add-div_right}
use Rattle.floating.proofs.Arithmetic.{pow-two}
use Rattle.floating.proofs.Align.{product-low, product_high}

module _ (h a b : ℕ) where
  abbrev unit : ℕ
  unit = 2 ^ h

  -- the upper halves' product; those across, together; the lower halves'
  abbrev upper : ℕ
  upper = a / unit * (b / unit)

  abbrev across : ℕ
  across = a / unit * (b % unit) + a % unit * (b / unit)

  abbrev lower : ℕ
  lower = a % unit * (b % unit)

  -- the four, each in its place, are the true product
  pub true-product : (upper * unit + across) * unit + lower ≡ a * b
  true-product = placed (a / unit) (a % unit) (b / unit) (b % unit) unit ∙ ap₂ (λ (x y : ℕ). x * y) (div-add-mod' a unit) (div-add-mod' b unit)
    where
      placed : (i j k l u : ℕ) → (i * k * u + (i * l + j * k)) * u + j * l ≡ (i * u + j) * (k * u + l)
      placed i j k l u = simp (mul-add, add-mul, mul_assoc, mul_comm, mul_left_comm, add_assoc, add_comm, add_left_comm)

  -- its digits above the last h: of the lower halves' product only what it carries counts
  but_last : upper * unit + (across + lower / unit) ≡ a * b / unit
  but_last =
      sym
      (ap (λ (x : ℕ). x / unit) (sym true-product)
      ∙ mul-add-div_right (pow_pos h) (upper * unit + across) lower
      ∙ add_assoc (upper * unit) across (lower / unit))

  -- and above j more: of all but the upper halves' product the digits above the last j, with what they carry
  pub first-digits : (j k : ℕ) → k + j ≡ h → upper * 2 ^ k + (across + lower / unit) / 2 ^ j ≡ a * b / 2 ^ (h + j)
  first-digits j k e =
      let moved : upper * unit ≡ upper * 2 ^ k * 2 ^ j = ap (λ (x : ℕ). upper * x) (sym (pow-two k j h e)) ∙ sym (mul_assoc upper (2 ^ k) (2 ^ j)) in
      sym
      (ap (λ (x : ℕ). a * b / x) (pow-add 2 h j)
      ∙ sym (div-div-eq-div-mul (a * b) unit (2 ^ j))
      ∙ ap (λ (x : ℕ). x / 2 ^ j) (sym but_last ∙ ap (λ (x : ℕ). x + (across + lower / unit)) moved)
      ∙ mul-add-div_right (pow_pos j) (upper * 2 ^ k) (across + lower / unit))

-- as the code has them: two products across, one of the lower halves, one of the upper
pub by-halves : (h a b j k : ℕ) → k + j ≡ h → (u v w z : ℕ) → u ≡ a / 2 ^ h * (b % 2 ^ h) → v ≡ a % 2 ^ h * (b / 2 ^ h) → w ≡ a % 2 ^ h * (b % 2 ^ h)
    → z ≡ a / 2 ^ h * (b / 2 ^ h) → z * 2 ^ k + (u + v + w / 2 ^ h) / 2 ^ j ≡ a * b / 2 ^ (h + j)
by-halves h a b j k e u v w z hu hv hw hz =
    ap₂ (λ (x y : ℕ). x * 2 ^ k + (y + w / 2 ^ h) / 2 ^ j) hz (ap₂ (λ (x y : ℕ). x + y) hu hv)
    ∙ ap (λ (y : ℕ). upper h a b * 2 ^ k + (across h a b + y / 2 ^ h) / 2 ^ j) hw
    ∙ first-digits h a b j k e

-- Two significands of p digits: their product without its last p - 2 has p + 1 digits or p + 2.
module _ (p a b r : ℕ) (P : 2 ≤ p) (alo : 2 ^ (p - 1) ≤ a) (ahi : a < 2 ^ p) (blo : 2 ^ (p - 1) ≤ b) (bhi : b < 2 ^ p) where
  pub product-digits : r ≡ a * b / 2 ^ (p - 2) → (r ≡ a * b / 2 ^ (p - 2)) × (2 ^ p ≤ r) × (r < 2 ^ (p + 2))
  product-digits e = (e, le_trans low (le_of_eq (sym e)), lt_of_le_of_lt (le_of_eq e) high)
    where
      low : 2 ^ p ≤ a * b / 2 ^ (p - 2)
      low =
          let same : p + (p - 2) ≡ p - 1 + (p - 1) = omega arith in
          (le-div_iff_mul-le (pow_pos (p - 2))).1
          (le_trans (le_of_eq (pow-two p (p - 2) (p - 1 + (p - 1)) same ∙ pow-add 2 (p - 1) (p - 1))) (product-low p a b alo blo))

      high : a * b / 2 ^ (p - 2) < 2 ^ (p + 2)
      high =
          let same : p + 2 + (p - 2) ≡ p + p = omega arith in
          (div-lt_iff_lt-mul (pow_pos (p - 2))).1
          (lt_of_lt_of_le (product_high p a b ahi bhi) (le_of_eq (sym (pow-two (p + 2) (p - 2) (p + p) same ∙ pow-add 2 p p))))
