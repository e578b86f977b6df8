-- Overflow of a sum and of a difference, from the signs that 32 bits show.
use Rattle.std.proofs.Common.{◌≡◌, ℕ, zero, suc, ◌+◌, ◌-◌, ◌*◌, ◌/◌, ◌%◌, ◌^◌, ◌<◌, Bool, true, false, eqb, sym, refl, ap, ◌∙◌, arith}
use lib.Bits.{bit_and, bit_xor, and_shr, xor_shr, and_mod, xor_mod}
use lib.Pow.{field}
use Rattle.numbers.specs.Halves.{low}
use Rattle.numbers.specs.Signed.{low32, overflows}
use Rattle.numbers.proofs.Differences.{Range, under, over, inside, overflows-of}
use Rattle.longword.specs.Longword.{sum_of, difference_of}
use Rattle.longword.proofs.Forms.{excess, sum-form, difference-form, moves}
use Rattle.longword.proofs.LowBits.{summed, subtracted}

-- the sign of z is neither that of x nor that of y, of three top bits
abbrev apart : ℕ → ℕ → ℕ → Bool
apart x y z = eqb (bit_and (bit_xor x z) (bit_xor y z)) 1

tops : (a b z : ℕ) → eqb (bit_and (bit_xor a z) (bit_xor b z) / 2 ^ 31 % 2) 1 ≡ apart (low a / 2 ^ 31) (low b / 2 ^ 31) (low z / 2 ^ 31)
tops a b z =
    rw (
      and_shr (bit_xor a z) (bit_xor b z) 31,
      xor_shr a z 31,
      xor_shr b z 31,
      and_mod (bit_xor (a / 2 ^ 31) (z / 2 ^ 31)) (bit_xor (b / 2 ^ 31) (z / 2 ^ 31)) 1,
      xor_mod (a / 2 ^ 31) (z / 2 ^ 31) 1,
      xor_mod (b / 2 ^ 31) (z / 2 ^ 31) 1,
      field a 1 31,
      field b 1 31,
      field z 1 31,
    )

data Bit : ℕ → Type 0 where
  off : Bit 0
  on : Bit 1

bit : (n : ℕ) → n < 2 → Bit n
bit zero h = off
bit (suc zero) h = on
bit (suc (suc n)) h = absurd (omega arith)

-- the true sum of two longwords whose top bits are t and u, in excess by 2^31 p and q: with the carry c, 32 bits keep the top bit v.
-- x, y and z are the other bits
signs : (x y z p q c t u v : ℕ) → Bit t → Bit u → Bit v → x < 2 ^ 31 → y < 2 ^ 31 → z < 2 ^ 31
    → v * 2 ^ 31 + z + c * 2 ^ 32 ≡ t * 2 ^ 31 + x + (u * 2 ^ 31 + y) → p + t * 2 ^ 31 ≡ x + 2 ^ 31 → q + u * 2 ^ 31 ≡ y + 2 ^ 31
    → Range (p + q) (2 ^ 31 + 2 ^ 31) (apart t u v)
signs x y z p q c t u v off off off hx hy hz e f g = inside (omega arith) (omega arith)
signs x y z p q c t u v off off on hx hy hz e f g = over (omega arith)
signs x y z p q c t u v off on off hx hy hz e f g = inside (omega arith) (omega arith)
signs x y z p q c t u v off on on hx hy hz e f g = inside (omega arith) (omega arith)
signs x y z p q c t u v on off off hx hy hz e f g = inside (omega arith) (omega arith)
signs x y z p q c t u v on off on hx hy hz e f g = inside (omega arith) (omega arith)
signs x y z p q c t u v on on off hx hy hz e f g = under (omega arith)
signs x y z p q c t u v on on on hx hy hz e f g = inside (omega arith) (omega arith)

top-bit-moved : (x : ℕ) → x < 2 ^ 32 → (x + 2 ^ 31) % 2 ^ 32 + x / 2 ^ 31 * 2 ^ 31 ≡ x % 2 ^ 31 + 2 ^ 31
top-bit-moved x h = omega arith

carried : (x y z : ℕ) → z ≡ (x + y) % 2 ^ 32
    → z / 2 ^ 31 * 2 ^ 31 + z % 2 ^ 31 + (x + y) / 2 ^ 32 * 2 ^ 32 ≡ x / 2 ^ 31 * 2 ^ 31 + x % 2 ^ 31 + (y / 2 ^ 31 * 2 ^ 31 + y % 2 ^ 31)
carried x y z e = omega arith

sum-range : (x y z : ℕ) → x < 2 ^ 32 → y < 2 ^ 32 → z ≡ (x + y) % 2 ^ 32
    → Range ((x + 2 ^ 31) % 2 ^ 32 + (y + 2 ^ 31) % 2 ^ 32) (2 ^ 31 + 2 ^ 31) (apart (x / 2 ^ 31) (y / 2 ^ 31) (z / 2 ^ 31))
sum-range x y z hx hy e =
    signs (x % 2 ^ 31) (y % 2 ^ 31) (z % 2 ^ 31) ((x + 2 ^ 31) % 2 ^ 32) ((y + 2 ^ 31) % 2 ^ 32) ((x + y) / 2 ^ 32) (x / 2 ^ 31) (y / 2 ^ 31) (z / 2 ^ 31)
    (bit (x / 2 ^ 31) (omega arith)) (bit (y / 2 ^ 31) (omega arith)) (bit (z / 2 ^ 31) (omega arith))
    (omega arith) (omega arith) (omega arith) (carried x y z e) (top-bit-moved x hx) (top-bit-moved y hy)

-- p - q overflows where r + q does, r being the difference that 32 bits keep; all three in excess by 2^31
moved : (p q r i j : ℕ) (t : Bool) → p < 2 ^ 32 → r < 2 ^ 32 → r + q + i * 2 ^ 32 ≡ p + 2 ^ 31 + j * 2 ^ 32
    → Range (r + q) (2 ^ 31 + 2 ^ 31) t → Range (p + 2 ^ 31) (2 ^ 31 + q) t
moved p q r i j true hp hr e (under h) = over (omega arith)
moved p q r i j true hp hr e (over h) = under (omega arith)
moved p q r i j false hp hr e (inside h g) = inside (omega arith) (omega arith)

kept : (x y z : ℕ) → x < 2 ^ 32 → y < 2 ^ 32 → z < 2 ^ 32 → x ≡ (z + y) % 2 ^ 32
    → (z + 2 ^ 31) % 2 ^ 32 + (y + 2 ^ 31) % 2 ^ 32 + (z / 2 ^ 31 + y / 2 ^ 31) * 2 ^ 32
    ≡ (x + 2 ^ 31) % 2 ^ 32 + 2 ^ 31 + (x / 2 ^ 31 + (z + y) / 2 ^ 32) * 2 ^ 32
kept x y z hx hy hz e =
    let f = moves x hx in
    let g = moves y hy in
    let h = moves z hz in
    omega arith

restored : (x y : ℕ) → x < 2 ^ 32 → y < 2 ^ 32 → ((x + (2 ^ 32 - y)) % 2 ^ 32 + y) % 2 ^ 32 ≡ x
restored x y hx hy = omega arith

module _ (a b : ℕ) where
  pub sum-overflow : (z : ℕ) → z ≡ low32 (sum_of a b) → eqb (bit_and (bit_xor a z) (bit_xor b z) / 2 ^ 31 % 2) 1 ≡ overflows (sum_of a b)
  sum-overflow z e =
      let f : z ≡ (low a + low b) % 2 ^ 32 = e ∙ sym (summed a b ((low a + low b) % 2 ^ 32) refl) in
      let g : low z ≡ (low a + low b) % 2 ^ 32 = omega arith in
      tops a b z
      ∙ sym (ap overflows (sum-form a b) ∙ overflows-of _ _ _ (sum-range (low a) (low b) (low z) (omega arith) (omega arith) g))

  pub difference-overflow : (z : ℕ) → z ≡ low32 (difference_of a b) → eqb (bit_and (bit_xor z a) (bit_xor b a) / 2 ^ 31 % 2) 1 ≡ overflows (difference_of a b)
  difference-overflow z e =
      let f : z ≡ (low a + (2 ^ 32 - low b)) % 2 ^ 32 = e ∙ sym (subtracted a b _ refl) in
      let g : low z ≡ (low a + (2 ^ 32 - low b)) % 2 ^ 32 = omega arith in
      let h : low a ≡ (low z + low b) % 2 ^ 32 = sym (rw g (restored (low a) (low b) (omega arith) (omega arith))) in
      let r = sum-range (low z) (low b) (low a) (omega arith) (omega arith) h in
      let k = kept (low a) (low b) (low z) (omega arith) (omega arith) (omega arith) h in
      tops z b a
      ∙ sym (ap overflows (difference-form a b) ∙ overflows-of _ _ _ (moved (excess a) (excess b) (excess z) _ _ _ (omega arith) (omega arith) k r))
