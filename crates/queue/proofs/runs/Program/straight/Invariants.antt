-- `Program::straight` meets its contract: after k turns the first k instructions are done. Assumes nothing.
use mathlib.Core.Path.{◌≡◌}
use Prim.Native.Nat.{◌≤◌}
use lib.ListN.{length}
use Rattle.machine.specs.Run.{under_way}
use Rattle.queue.specs.CallsWorking.{through_by}
use Rattle.queue.proofs.runs.Program.straight.Given as goal

abbrev pub invariant-loop-k : goal.invariant-loop-k
invariant-loop-k l = (l.k ≤ length l.self.scalars.now) × (l.progress.control.vlr ≤ 64)
    × (under_way l.elements l.marks l.progress ≡ through_by l.self.instructions.now l.self.scalars.now l.k
    (under_way l.initial.elements l.initial.marks l.initial.progress))
