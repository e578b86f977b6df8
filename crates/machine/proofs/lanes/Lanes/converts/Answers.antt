-- `converts` meets its contract: the elements of the set that are left are still to be converted. Assumes nothing.
use Rattle.std.proofs.Common.{rules}
use Rattle.machine.specs.Working.{lane_of}
use Rattle.machine.proofs.LaneLoops.{next_walk}
use Rattle.machine.proofs.lanes.Lanes.converts.Goals as goal

pub loop-i-preserved : goal.loop-i-preserved
unfolding lane_of
loop-i-preserved g c = next_walk _ _ _ _ _ c.loop-i.invariant _ _ _ c.in-Some.ensures.steps (search rules)
