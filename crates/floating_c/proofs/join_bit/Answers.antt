-- `floating_c::join_bit` meets its contract: the mask bit, and the types above it. Assumes nothing.
use Rattle.std.proofs.Common.{◌≡◌, Bool, true, false, refl, arith}
use Rattle.std.specs.Int.{from_bool}
use Rattle.numbers.specs.Choice.{pick}
use Rattle.floating_c.specs.Given.{joined_bit}
use Rattle.floating_c.proofs.join_bit.Goals as goal

bit-number : (t : Bool) → from_bool t ≡ pick t 1 0
bit-number true = refl
bit-number false = refl

pub returns : goal.returns
unfolding joined_bit
returns c = let b = bit-number c.args.r.bit in omega arith
