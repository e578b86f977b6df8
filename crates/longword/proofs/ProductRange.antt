-- Overflow of a product, from its number plus 2^31 modulo 2^64; and that products of longwords fit 64 bits.
use Rattle.std.proofs.Common.{◌≡◌, ℕ, ◌+◌, ◌-◌, ◌*◌, ◌/◌, ◌%◌, ◌^◌, ◌<◌, ◌≤◌, Bool, true, false, ltb, leb, sym, refl, ap, ◌∙◌, mul-le-mul_right, add-mul, mul-le-mul_left, arith, w64, Fits, ltb-false, ltb-true, leb-false, leb-true}
use Rattle.numbers.specs.Halves.{low}
use Rattle.numbers.specs.Signed.{overflows}
use Rattle.numbers.proofs.Differences.{Range, under, over, inside, overflows-of}
use Rattle.longword.specs.Longword.{product_of}
use Rattle.longword.proofs.Forms.{excess, product-form}

module _ (x y : ℕ) (hx : x < 2 ^ 32) (hy : y < 2 ^ 32) where
  product-above : x * y + x * y ≤ 2 ^ 32 * x + 2 ^ 32 * y
  product-above =
      let f : x * y ≤ x * 2 ^ 32 = mul-le-mul_left x (omega arith) in
      let g : x * y ≤ 2 ^ 32 * y = mul-le-mul_right y (omega arith) in
      omega arith

  product-below : 2 ^ 32 * x + 2 ^ 32 * y ≤ x * y + 2 ^ 64
  product-below =
      let u : ℕ = 2 ^ 32 - x in
      let e : 2 ^ 32 ≡ u + x = omega arith in
      let f : u * y ≤ u * 2 ^ 32 = mul-le-mul_left u (omega arith) in
      let g : 2 ^ 32 * y ≡ u * y + x * y = ap (λ (n : ℕ). n * y) e ∙ add-mul u x y in
      omega arith

  product-fits : Fits w64 (x * y)
  product-fits =
      let f : x * y ≤ x * 2 ^ 32 = mul-le-mul_left x (omega arith) in
      record { fits = omega arith }

pub lows-fit : (a b : ℕ) → Fits w64 (low a * low b)
lows-fit a b = product-fits (low a) (low b) (omega arith) (omega arith)

pub excesses-fit : (a b x y : ℕ) → x ≡ excess a → y ≡ excess b → Fits w64 (x * y)
excesses-fit a b x y e f = product-fits x y (omega arith) (omega arith)

-- v is the product plus 2^31, modulo 2^64
product-range : (x y m v i j : ℕ) (t : Bool) → leb (2 ^ 32) v ≡ t → v < 2 ^ 64
    → m + m ≤ 2 ^ 32 * x + 2 ^ 32 * y → 2 ^ 32 * x + 2 ^ 32 * y ≤ m + 2 ^ 64
    → m + (2 ^ 62 + 2 ^ 31) + j * 2 ^ 64 ≡ v + (x + y) * 2 ^ 31 + i * 2 ^ 64
    → Range (m + 2 ^ 31 * 2 ^ 31) (x * 2 ^ 31 + 2 ^ 31 * y) t
product-range x y m v i j true e hv f g h =
    beyond (ltb (m + 2 ^ 31 * 2 ^ 31 + 2 ^ 31) (x * 2 ^ 31 + 2 ^ 31 * y)) refl (leb-true (2 ^ 32) v e)
  where
    beyond : (t : Bool) → ltb (m + 2 ^ 31 * 2 ^ 31 + 2 ^ 31) (x * 2 ^ 31 + 2 ^ 31 * y) ≡ t → 2 ^ 32 ≤ v
        → Range (m + 2 ^ 31 * 2 ^ 31) (x * 2 ^ 31 + 2 ^ 31 * y) true
    beyond true d k = under (ltb-true (m + 2 ^ 31 * 2 ^ 31 + 2 ^ 31) (x * 2 ^ 31 + 2 ^ 31 * y) d)
    beyond false d k = let l = ltb-false (m + 2 ^ 31 * 2 ^ 31 + 2 ^ 31) (x * 2 ^ 31 + 2 ^ 31 * y) d in over (omega arith)
product-range x y m v i j false e hv f g h =
    let k = leb-false (2 ^ 32) v e in inside (omega arith) (omega arith)

wrapped : (m n v w : ℕ) → n < 2 ^ 64 → w ≡ (m + (2 ^ 62 + 2 ^ 31)) % 2 ^ 64 → v ≡ (w + (2 ^ 64 - n)) % 2 ^ 64
    → m + (2 ^ 62 + 2 ^ 31) + (v + n) / 2 ^ 64 * 2 ^ 64 ≡ v + n + (m + (2 ^ 62 + 2 ^ 31)) / 2 ^ 64 * 2 ^ 64
wrapped m n v w h e f = omega arith

pub product-overflow : (a b x y w v : ℕ) → x ≡ excess a → y ≡ excess b → w ≡ (x * y + (2 ^ 62 + 2 ^ 31)) % 2 ^ 64
    → v ≡ (w + (2 ^ 64 - (x + y) * 2 ^ 31)) % 2 ^ 64 → leb (2 ^ 32) v ≡ overflows (product_of a b)
product-overflow a b x y w v e f g h =
    let hx : x < 2 ^ 32 = omega arith in
    let hy : y < 2 ^ 32 = omega arith in
    let k = wrapped (x * y) ((x + y) * 2 ^ 31) v w (omega arith) g h in
    let r = product-range x y (x * y) v _ _ (leb (2 ^ 32) v) refl (omega arith) (product-above x y hx hy) (product-below x y hx hy) k in
    sym (ap overflows (product-form a b ∙ cc) ∙ overflows-of _ _ _ r)
