-- `converts` meets its contract: the elements of the set that are left are still to be converted. Assumes nothing.
use Rattle.machine.specs.Working.{lanes, lane_of, converting}
use Rattle.numbers.proofs.SetBits.{Walk}
use Rattle.machine.proofs.lanes.Lanes.converts.Given as goal

abbrev pub invariant-loop-i : goal.invariant-loop-i
invariant-loop-i g l =
    let i = l.fn.self.instruction in
    Walk (lane_of (converting i.exc l.conversion) i 0) l.fn.self.which 64 (lanes l.initial.elements 0) l.i-iterator (lanes l.elements l.types)
