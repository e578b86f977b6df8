-- Document 01, "What an element receives": the longword, logical and shift lines. a is Va's element or the scalar, b is Vb's; both have 64 bits.
use Rattle.std.specs.Prelude.{ℕ, ◌-◌, ◌*◌, ◌/◌, ◌%◌, ◌^◌, Bool, ℤ, ◌+ℤ◌, ◌-ℤ◌, ◌*ℤ◌, bit_and, bit_or, bit_xor}
use Rattle.numbers.specs.Halves.{low, with_low}
use Rattle.numbers.specs.Relation.{relation_holds}
use Rattle.numbers.specs.Signed.{signed, negative, is_zero}

-- ---- longword, signed, Va op Vb: the true results, of bits <31:0> alone
unfoldable pub sum_of : ℕ → ℕ → ℤ
sum_of a b = signed (low a) +ℤ signed (low b)

unfoldable pub difference_of : ℕ → ℕ → ℤ
difference_of a b = signed (low a) -ℤ signed (low b)

unfoldable pub product_of : ℕ → ℕ → ℤ
product_of a b = signed (low a) *ℤ signed (low b)

-- ---- compare: Va stands left
abbrev pub is_less : ℕ → ℕ → Bool
is_less a b = negative (difference_of a b)

abbrev pub is_equal : ℕ → ℕ → Bool
is_equal a b = is_zero (difference_of a b)

abbrev pub compares : ℕ → ℕ → ℕ → Bool
compares relation a b = relation_holds relation (is_less a b) (is_equal a b)

-- ---- logical: bits <63:32> are Vb's
abbrev pub bit_set_of : ℕ → ℕ → ℕ
bit_set_of a b = with_low b (low (bit_or a b))

abbrev pub exclusive_or_of : ℕ → ℕ → ℕ
exclusive_or_of a b = with_low b (low (bit_xor a b))

-- (not a) and b
abbrev pub bit_clear_of : ℕ → ℕ → ℕ
bit_clear_of a b = with_low b (low (bit_and (2 ^ 64 - 1 - a) b))

-- ---- shifts: b's longword by a<4:0>, 32 bits of result
abbrev pub shifted_right : ℕ → ℕ → ℕ
shifted_right a b = low b / 2 ^ (a % 32)

abbrev pub shifted_left : ℕ → ℕ → ℕ
shifted_left a b = low (low b * 2 ^ (a % 32))
