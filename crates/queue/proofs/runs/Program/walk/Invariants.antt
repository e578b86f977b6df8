-- `Program::walk` meets its contract: what is left of the list, run from here, gives what the whole list gives. Assumes nothing.
use Rattle.std.proofs.Common.{◌≡◌}
use Rattle.machine.specs.Run.{under_way}
use Rattle.queue.specs.CallsWorking.{act_by}
use Rattle.order.proofs.RunLoop.{RunInv}
use Rattle.queue.proofs.runs.Program.walk.Given as goal

abbrev pub invariant-loop-x : goal.invariant-loop-x
invariant-loop-x l = (l.progress.control.vlr ≡ l.initial.progress.control.vlr)
    × RunInv (act_by l.self.instructions.now l.self.scalars.now) l.list (under_way l.initial.elements l.initial.marks l.initial.progress)
    (under_way l.elements l.marks l.progress) l.x-index
