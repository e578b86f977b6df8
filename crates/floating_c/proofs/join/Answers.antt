-- `floating_c::join` meets its contract: the value, and the types above it. Assumes nothing.
use Rattle.std.proofs.Common.{arith}
use Rattle.floating_c.specs.Given.{joined}
use Rattle.floating_c.proofs.join.Goals as goal

pub returns : goal.returns
unfolding joined
returns c = omega arith
