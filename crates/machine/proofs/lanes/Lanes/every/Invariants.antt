-- `every` meets its contract: the elements below i were worked on, and the mask was halved at each of them. Assumes nothing.
use Rattle.std.proofs.Common.{◌≡◌, true, ◌/◌, ◌^◌}
use Rattle.machine.specs.Working.{lanes, short_lane}
use Rattle.numbers.specs.Rising.{rising}
use Rattle.machine.proofs.lanes.Lanes.every.Given as goal

abbrev pub invariant-loop-i : goal.invariant-loop-i
invariant-loop-i g l = (l.left ≡ l.self.mask / 2 ^ l.i)
    × (lanes l.elements l.types ≡ rising (short_lane l.work true l.self.mask l.self.instruction l.self.scalar) l.i (lanes l.initial.elements 0))
