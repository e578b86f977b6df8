-- `Program::straight` meets its contract: after k turns the first k instructions are done. Assumes nothing.
use Rattle.std.proofs.Common.{rules}
use Rattle.numbers.proofs.Rising.{starts, turns}
use Rattle.queue.proofs.Through.{whole-short}
use Rattle.queue.proofs.runs.Program.straight.Goals as goal

pub loop-k-init : goal.loop-k-init
loop-k-init c = (search rules, search rules, starts _ _)

pub loop-k-preserved : goal.loop-k-preserved
loop-k-preserved c =
    (search rules, whole-short _ _ _ _ c.loop-k.invariant.1 c.whole-progress.ensures, turns _ c.loop-k.k _ _ _ c.loop-k.invariant.2 c.whole-progress.ensures)
