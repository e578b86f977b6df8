-- `every` meets its contract: the elements below i were worked on, and the mask was halved at each of them. Assumes nothing.
use Rattle.numbers.proofs.Rising.{turns}
use Rattle.machine.proofs.LaneLoops.{its-bit, halved}
use Rattle.machine.proofs.lanes.Lanes.every.Goals as goal

pub loop-i-preserved : goal.loop-i-preserved
loop-i-preserved g c =
    let v = c.loop-i.invariant in
    let h = rw (its-bit c.args.self.mask c.loop-i.left c.loop-i.i v.0) at c.short-types.ensures in
    (halved _ _ _ v.0, turns _ _ _ _ _ v.1 h)
