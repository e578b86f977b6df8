-- `check` meets its contract: after i entries the sets are those of the first i. Assumes nothing.
use Prim.Native.Nat.{◌-◌}
use lib.ListN.{length}
use Rattle.order.proofs.Marking.{Marked}
use Rattle.order.proofs.check.Given as goal

abbrev pub invariant-loop-i : goal.invariant-loop-i
invariant-loop-i l = Marked l.fn.n l.fn.vlr l.fn.iotas l.fn.bound l.list l.left.sets l.i

abbrev pub decreases-loop-i : goal.decreases-loop-i
decreases-loop-i l = length l.list - l.i
