-- The low 32 bits of a whole number are a longword, and those of a longword's number are the longword. Assumes nothing.
use mathlib.Core.Path.{◌≡◌, ◌∙◌, ap}
use Prim.Native.Nat.{ℕ, ◌*◌, ◌/◌, ◌^◌, ◌<◌}
use native.Mathlib.Omega.{arith}
use lib.IntN.{ℤ, pos, negsuc}
use Rattle.numbers.specs.Signed.{signed, low32}
use Rattle.numbers.proofs.Differences.{low32-of, signed_top}

pub low32-fits : (z : ℤ) → low32 z < 2 ^ 32
unfolding low32
low32-fits (pos n) = omega arith
low32-fits (negsuc n) = omega arith

-- a longword is the low 32 bits of its number
pub low32-signed : (x : ℕ) → x < 2 ^ 32 → low32 (signed x) ≡ x
low32-signed x h = ap low32 (signed_top x h) ∙ low32-of x (x / 2 ^ 31 * 2 ^ 32) x h (omega arith)
