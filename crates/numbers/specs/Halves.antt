-- The two halves of 64 bits: <31:0> and <63:32>.
use Rattle.std.specs.Prelude.{ℕ, ◌+◌, ◌*◌, ◌/◌, ◌%◌, ◌^◌}

abbrev pub low : ℕ → ℕ
low x = x % 2 ^ 32

abbrev pub high : ℕ → ℕ
high x = x / 2 ^ 32

-- x with <31:0> replaced by v, which is below 2^32
abbrev pub with_low : ℕ → ℕ → ℕ
with_low x v = high x * 2 ^ 32 + v

-- x with <63:32> replaced by v, which is below 2^32
abbrev pub with_high : ℕ → ℕ → ℕ
with_high x v = v * 2 ^ 32 + low x
