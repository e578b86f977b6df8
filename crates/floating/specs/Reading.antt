-- Document 01, "Saved state and readings": "A reading is a binary64 number, a longword or a reserved operand with its code (bits <3:0>). An
-- F_floating reading equals its binary64 number exactly; zero is positive". Definitions only.
use Rattle.std.specs.Prelude.{◌≡◌, ℕ, ◌+◌, ◌-◌, ◌*◌, ◌%◌, ◌^◌, ◌==◌, to_bits}
use Rattle.std.specs.Float.{binary64}
use Rattle.std.specs.Float.Ieee.Exact.{HasValue}
use Rattle.numbers.specs.Choice.{pick}
use Rattle.numbers.specs.Signed.{signed, low32}
use Rattle.floating.specs.Format.{Format, sign_of, exponent_of, fraction_of, is_reserved}
use Rattle.floating.specs.Exact.{Exact, value_of}
use Rattle.floating.specs.declared.Reading.{Reading}
use Rattle.floating.specs.declared.Reading.TheVariants.{Number, Longword, Reserved}

-- the number of a case: 0 binary64, 1 longword, 2 reserved operand
abbrev pub kind_of : Reading → ℕ
kind_of (Number x) = 0
kind_of (Longword i) = 1
kind_of (Reserved c) = 2

-- its 64 bits: those of the binary64 number, the longword's 32, or the code
abbrev pub bits_of : Reading → ℕ
bits_of (Number x) = to_bits binary64 x
bits_of (Longword i) = low32 i
bits_of (Reserved c) = c

-- a binary64 number is exactly v; of the other cases nothing is claimed here, since a word of the format is shown as a longword by no promise
abbrev pub IsValue : Reading → Exact → Type 0
IsValue (Number x) v = HasValue x (v.sign == 1) v.num v.den
IsValue (Longword i) v = Unit {0}
IsValue (Reserved c) v = Unit {0}

-- the bits of the binary64 number 0.1x times 2 ^ (e - excess), with the sign s
abbrev pub double_bits : Format → ℕ → ℕ → ℕ → ℕ
double_bits f s e x = s * 2 ^ 63 + (e + 1022 - f.excess) * 2 ^ 52 + x * 2 ^ (53 - f.bits)

abbrev pub shown_bits : Format → ℕ → ℕ
shown_bits f w =
    pick (is_reserved f w) (w % 16)
    (pick (exponent_of f w == 0) 0
    (double_bits f (sign_of f w) (exponent_of f w) (fraction_of f w)))

-- what is shown of a word of the format
pub record Shows (f : Format) (w : ℕ) (r : Reading) : Type 0 where
  pub kind : kind_of r ≡ pick (is_reserved f w) 2 0
  pub bits : bits_of r ≡ shown_bits f w
  pub value : IsValue r (value_of f w)

-- what is shown of 32 bits as a longword
abbrev pub longword_reading : ℕ → Reading
longword_reading l = Longword (signed l)
