-- `chosen` meets its contract: the elements of the set that are left are still to be worked on. Assumes nothing.
use Rattle.std.proofs.Common.{true}
use Rattle.machine.specs.Working.{lanes, short_lane}
use Rattle.numbers.proofs.SetBits.{Walk}
use Rattle.machine.proofs.lanes.Lanes.chosen.Given as goal

abbrev pub invariant-loop-i : goal.invariant-loop-i
invariant-loop-i g l = Walk (short_lane l.work true l.self.mask l.self.instruction l.self.scalar) l.self.which 64 (lanes l.initial.elements 0) l.i-iterator
    (lanes l.elements l.types)
