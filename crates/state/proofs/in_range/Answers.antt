-- `in_range` meets its contract: each test is the definition's own. Assumes nothing.
use Rattle.state.specs.State.{in_range}
use Rattle.state.proofs.in_range.Goals as goal

pub returns : goal.returns
unfolding in_range
returns c = cc
