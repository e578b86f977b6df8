-- Single bits of a number.
use Rattle.std.specs.Prelude.{Bool, ℕ, ◌+◌, ◌-◌, ◌*◌, ◌/◌, ◌%◌, ◌^◌, eqb}

-- bit i of x is one
abbrev pub bit : ℕ → ℕ → Bool
bit x i = eqb (x / 2 ^ i % 2) 1

-- x with bit i zero
abbrev pub without_bit : ℕ → ℕ → ℕ
without_bit x i = x - x / 2 ^ i % 2 * 2 ^ i

-- x with bit i replaced by v, 0 or 1
abbrev pub with_bit : ℕ → ℕ → ℕ → ℕ
with_bit x i v = without_bit x i + v * 2 ^ i
