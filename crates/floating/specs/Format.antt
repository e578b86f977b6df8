-- Document 01, "What an element receives", the item on F_floating: a format's numbers, and where its fields lie in a word. Definitions only.
use Rattle.std.specs.Prelude.{ℕ, zero, suc, ◌+◌, ◌-◌, ◌*◌, ◌/◌, ◌%◌, ◌^◌, Bool, false, ◌==◌}
use Rattle.numbers.specs.Choice.{pick}

pub record Format : Type 0 where
  -- significant bits, the first of which is not in the word
  pub bits : ℕ
  -- what an exponent field is above the exponent
  pub excess : ℕ
  -- exponent fields of numbers run from 1 to this
  pub largest : ℕ
  -- the exponent's lowest bit; the sign is bit 15, and the fraction begins below the exponent
  pub lowest : ℕ
  -- the 16-bit words after the first, in which the fraction goes on, upward
  pub further : ℕ

-- F_floating: sign <15>, exponent <14:7>, fraction <6:0> then <31:16>
abbrev pub F : Format
F = record { bits = 24; excess = 128; largest = 255; lowest = 7; further = 1 }

-- n words of 16 bits, the lowest of which counts most. Its own opposite.
abbrev pub upward : ℕ → ℕ → ℕ
upward zero x = 0
upward (suc n) x = x % 65536 * 65536 ^ n + upward n (x / 65536)

abbrev pub sign_of : Format → ℕ → ℕ
sign_of f w = w / 32768 % 2

abbrev pub exponent_of : Format → ℕ → ℕ
exponent_of f w = w / 2 ^ f.lowest % 2 ^ (15 - f.lowest)

abbrev pub fraction_of : Format → ℕ → ℕ
fraction_of f w = w % 2 ^ f.lowest * 65536 ^ f.further + upward f.further (w / 65536)

-- the first bit with the fraction after it
abbrev pub significand_of : Format → ℕ → ℕ
significand_of f w = 2 ^ (f.bits - 1) + fraction_of f w

-- the word with the sign s, the exponent e and the fraction x
abbrev pub word_of : Format → ℕ → ℕ → ℕ → ℕ
word_of f s e x = s * 32768 + e * 2 ^ f.lowest + x / 65536 ^ f.further + upward f.further (x % 65536 ^ f.further) * 65536

-- exponent 0 with sign 0, for every fraction
abbrev pub is_zero : Format → ℕ → Bool
is_zero f w = pick (exponent_of f w == 0) (sign_of f w == 0) false

-- exponent 0 with sign 1, for every fraction
abbrev pub is_reserved : Format → ℕ → Bool
is_reserved f w = pick (exponent_of f w == 0) (sign_of f w == 1) false
