-- The true sum, difference and product of two longwords as differences of natural numbers, in two ways: each longword less 2^32 where its
-- top bit is set, and each in excess by 2^31.
use Rattle.std.proofs.Common.{◌≡◌, ℕ, ◌+◌, ◌*◌, ◌/◌, ◌%◌, ◌^◌, ◌<◌, ℤ, ◌+ℤ◌, ◌-ℤ◌, ◌*ℤ◌, ◌∙◌, arith}
use lib.IntN.{sub_ℕ}
use Rattle.numbers.specs.Halves.{low}
use Rattle.numbers.specs.Signed.{signed}
use Rattle.numbers.proofs.Differences.{signed_of, signed_top, sum-of, difference-of, product-of}
use Rattle.longword.specs.Longword.{sum_of, difference_of, product_of}

-- 2^32 where the top bit of x's low half is set
abbrev pub taken : ℕ → ℕ
taken x = low x / 2 ^ 31 * 2 ^ 32

-- the signed number of x's low half, plus 2^31
abbrev pub excess : ℕ → ℕ
excess x = (low x + 2 ^ 31) % 2 ^ 32

top : (x : ℕ) → signed (low x) ≡ sub_ℕ (low x) (taken x)
top x = signed_top (low x) (omega arith)

raised : (x : ℕ) → signed (low x) ≡ sub_ℕ (excess x) (2 ^ 31)
raised x = signed_of (low x) (omega arith)

combined : (op : ℤ → ℤ → ℤ) {x y i j : ℤ} → x ≡ i → y ≡ j → op x y ≡ op i j
combined op e f = cc

module _ (a b : ℕ) where
  pub sum_top : sum_of a b ≡ sub_ℕ (low a + low b) (taken a + taken b)
  unfolding sum_of
  sum_top = combined ◌+ℤ◌ (top a) (top b) ∙ sum-of (low a) (taken a) (low b) (taken b)

  pub sum-form : sum_of a b ≡ sub_ℕ (excess a + excess b) (2 ^ 31 + 2 ^ 31)
  unfolding sum_of
  sum-form = combined ◌+ℤ◌ (raised a) (raised b) ∙ sum-of (excess a) (2 ^ 31) (excess b) (2 ^ 31)

  pub difference-top : difference_of a b ≡ sub_ℕ (low a + taken b) (taken a + low b)
  unfolding difference_of
  difference-top = combined ◌-ℤ◌ (top a) (top b) ∙ difference-of (low a) (taken a) (low b) (taken b)

  pub difference-form : difference_of a b ≡ sub_ℕ (excess a + 2 ^ 31) (2 ^ 31 + excess b)
  unfolding difference_of
  difference-form = combined ◌-ℤ◌ (raised a) (raised b) ∙ difference-of (excess a) (2 ^ 31) (excess b) (2 ^ 31)

  pub product-top : product_of a b ≡ sub_ℕ (low a * low b + taken a * taken b) (low a * taken b + taken a * low b)
  unfolding product_of
  product-top = combined ◌*ℤ◌ (top a) (top b) ∙ product-of (low a) (taken a) (low b) (taken b)

  pub product-form : product_of a b ≡ sub_ℕ (excess a * excess b + 2 ^ 31 * 2 ^ 31) (excess a * 2 ^ 31 + 2 ^ 31 * excess b)
  unfolding product_of
  product-form = combined ◌*ℤ◌ (raised a) (raised b) ∙ product-of (excess a) (2 ^ 31) (excess b) (2 ^ 31)

-- what excess takes and adds
pub moves : (x : ℕ) → x < 2 ^ 32 → (x + 2 ^ 31) % 2 ^ 32 + x / 2 ^ 31 * 2 ^ 32 ≡ x + 2 ^ 31
moves x h = omega arith
