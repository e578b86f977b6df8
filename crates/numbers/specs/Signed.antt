-- Document 01, "What an element receives": longwords are signed; a result is the low 32 bits of the true result, and overflow is judged on the true result.
-- A true result is a whole number, lib.IntN's ℤ: pos n is n, negsuc n is -(n + 1).
use Rattle.std.specs.Prelude.{Bool, true, false, ◌||◌, ℕ, ◌-◌, ◌%◌, ◌^◌, ltb, eqb, ℤ, pos, negsuc, neg_ℤ, ◌-ℤ◌}
use Rattle.std.specs.Int.Signed.{lt_z, le_z}
use Rattle.numbers.specs.Choice.{pick}

-- a longword, below 2^32, as a signed number: below 2^31 it is itself, else it is 2^32 less
unfoldable pub signed : ℕ → ℤ
signed x = pick (ltb x (2 ^ 31)) (pos x) (pos x -ℤ pos (2 ^ 32))

-- the low 32 bits of a whole number (two's complement): those of -(n + 1) are those of n, each inverted
unfoldable pub low32 : ℤ → ℕ
low32 (pos n) = n % 2 ^ 32
low32 (negsuc n) = 2 ^ 32 - 1 - n % 2 ^ 32

-- no longword is that number: it is below -2^31, or 2^31 or above
unfoldable pub overflows : ℤ → Bool
overflows z = lt_z z (neg_ℤ (pos (2 ^ 31))) || le_z (pos (2 ^ 31)) z

-- below zero
unfoldable pub negative : ℤ → Bool
negative (pos n) = false
negative (negsuc n) = true

unfoldable pub is_zero : ℤ → Bool
is_zero (pos n) = eqb n 0
is_zero (negsuc n) = false
