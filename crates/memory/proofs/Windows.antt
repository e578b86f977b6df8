-- Laws of the window. Assumes nothing.
use Rattle.std.proofs.Common.{◌≡◌, ℕ, ◌+◌, ◌%◌, ◌^◌, ◌≤◌, true, ◌&&◌, eqb, leb, eqb-true, leb-true}
use Rattle.numbers.proofs.Tests.{and_left, and_right}
use Rattle.memory.specs.Window.{allowed}

-- an allowed window ends at 2^32 at the latest
pub ends-within : (bytes origin : ℕ) → allowed bytes origin ≡ true → origin + bytes ≤ 2 ^ 32
unfolding allowed
ends-within bytes origin e = leb-true (origin + bytes) (2 ^ 32) (and_right (leb bytes 65536 && eqb (origin % 8) 0) _ e)

-- and begins at a multiple of 8
pub origin-straight : (bytes origin : ℕ) → allowed bytes origin ≡ true → origin % 8 ≡ 0
unfolding allowed
origin-straight bytes origin e =
    eqb-true (origin % 8) 0 (and_right (leb bytes 65536) _ (and_left _ (leb (origin + bytes) (2 ^ 32)) e))
