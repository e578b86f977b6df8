-- `Left::ahead` meets its contract: after each turn the entries up to there have come. Assumes nothing.
use Prim.Native.Nat.{◌-◌}
use lib.ListN.{length}
use Rattle.order.specs.SetsWorking.{StretchTaken}
use Rattle.order.proofs.Left.ahead.Given as goal

abbrev pub invariant-loop-i : goal.invariant-loop-i
invariant-loop-i l = StretchTaken l.bindings.n l.bindings.iotas l.bindings.bound.now l.list l.initial.self.sets l.from l.self.sets l.i

abbrev pub decreases-loop-i : goal.decreases-loop-i
decreases-loop-i l = length l.list - l.i
