-- The low 32 bits of the true sum, difference and product, from the longwords as they stand.
use Rattle.std.proofs.Common.{◌≡◌, ℕ, ◌+◌, ◌-◌, ◌*◌, ◌/◌, ◌%◌, ◌^◌, ◌<◌, sym, ap, ◌∙◌, mul_assoc, mul_comm, arith}
use native.Mathlib.Nat.{mod-mod, add-mul-mod_self_right}
use lib.Pow.{shr_le}
use Rattle.numbers.specs.Halves.{low}
use Rattle.numbers.specs.Signed.{low32}
use Rattle.numbers.proofs.Differences.{low32-of}
use Rattle.longword.specs.Longword.{sum_of, difference_of, product_of, shifted_right}
use Rattle.longword.proofs.Forms.{taken, sum_top, difference-top, product-top}

differs : (x y t u r : ℕ) → (r + y) % 2 ^ 32 ≡ x → (r + (t * 2 ^ 32 + y)) % 2 ^ 32 ≡ (x + u * 2 ^ 32) % 2 ^ 32
differs x y t u r e =
    let f : r + (t * 2 ^ 32 + y) ≡ r + y + t * 2 ^ 32 = omega arith in
    rw (f, add-mul-mod_self_right (r + y) t (2 ^ 32), add-mul-mod_self_right x u (2 ^ 32), ← e) (sym (mod-mod (r + y) (2 ^ 32)))

multiplies : (x y t u r : ℕ) → r ≡ x * y % 2 ^ 32 → (r + (x * (u * 2 ^ 32) + t * 2 ^ 32 * y)) % 2 ^ 32 ≡ (x * y + t * 2 ^ 32 * (u * 2 ^ 32)) % 2 ^ 32
multiplies x y t u r e =
    let f : x * (u * 2 ^ 32) ≡ x * u * 2 ^ 32 = sym (mul_assoc x u (2 ^ 32)) in
    let g : t * 2 ^ 32 * y ≡ t * y * 2 ^ 32 = rw (mul_assoc t (2 ^ 32) y, mul_comm (2 ^ 32) y, mul_assoc t y (2 ^ 32)) in
    let h : t * 2 ^ 32 * (u * 2 ^ 32) ≡ t * 2 ^ 32 * u * 2 ^ 32 = sym (mul_assoc (t * 2 ^ 32) u (2 ^ 32)) in
    omega arith

module _ (a b : ℕ) where
  pub summed : (r : ℕ) → r ≡ (low a + low b) % 2 ^ 32 → r ≡ low32 (sum_of a b)
  summed r e =
      sym (ap low32 (sum_top a b)
      ∙ low32-of (low a + low b) (taken a + taken b) r (omega arith) (omega arith))

  pub subtracted : (r : ℕ) → r ≡ (low a + (2 ^ 32 - low b)) % 2 ^ 32 → r ≡ low32 (difference_of a b)
  subtracted r g =
      let h : r < 2 ^ 32 = omega arith in
      let e : (r + low b) % 2 ^ 32 ≡ low a = omega arith in
      sym (ap low32 (difference-top a b)
      ∙ low32-of (low a + taken b) (taken a + low b) r h (differs (low a) (low b) (low a / 2 ^ 31) (low b / 2 ^ 31) r e))

  pub product-low : (r : ℕ) → r ≡ low a * low b % 2 ^ 32 → r ≡ low32 (product_of a b)
  product-low r e =
      sym (ap low32 (product-top a b)
      ∙ low32-of (low a * low b + taken a * taken b) (low a * taken b + taken a * low b) r (omega arith)
      (multiplies (low a) (low b) (low a / 2 ^ 31) (low b / 2 ^ 31) r e))

-- a longword shifted right is no larger
pub shifted-right-fits : (a b : ℕ) → shifted_right a b < 2 ^ 32
shifted-right-fits a b = let h = shr_le (low b) (a % 32) in omega arith
