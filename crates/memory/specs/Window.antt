-- Document 01, "Memory": the window, a list of bytes that stands at an origin. Bytes are little-endian.
use Rattle.std.specs.Prelude.{ℕ, ◌+◌, ◌%◌, ◌^◌, Bool, ◌&&◌, List, take, drop, ◌==◌, nat_le}
use Rattle.numbers.specs.Bytes.{bytes_of, number_of}
use Rattle.numbers.specs.Over.{over}

-- at most 65,536 bytes, an origin that is a multiple of 8, and origin + length at most 2^32; else number 4
unfoldable pub allowed : ℕ → ℕ → Bool
allowed bytes origin = nat_le bytes 65536 && origin % 8 == 0 && nat_le (origin + bytes) (2 ^ 32)

-- the number that stands in size bytes of the window
abbrev pub number_at : ℕ → List ℕ → ℕ → ℕ
number_at size w offset = number_of (take size (drop offset w))

-- the window with those bytes replaced by a number's lowest, and every other byte kept
abbrev pub put_at : ℕ → List ℕ → ℕ → ℕ → List ℕ
put_at size w offset v = over w offset (bytes_of size v)
