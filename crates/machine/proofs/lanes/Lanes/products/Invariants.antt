-- `products` meets its contract: the elements of the set that are left are still to be multiplied or divided. Assumes nothing.
use Rattle.std.proofs.Common.{false}
use Rattle.machine.specs.Working.{lanes, lane_in, plainly}
use Rattle.element.specs.Working.{product_work}
use Rattle.numbers.proofs.SetBits.{Walk}
use Rattle.machine.proofs.lanes.Lanes.products.Given as goal

abbrev pub invariant-loop-i : goal.invariant-loop-i
invariant-loop-i g l =
    let i = l.fn.self.instruction in
    Walk (lane_in i.scalar (plainly (product_work l.divide) i.exc false) i l.fn.self.scalar) l.fn.self.which 64 (lanes l.initial.elements 0) l.i-iterator
    (lanes l.elements l.types)
