-- `Program::walk` meets its contract: what is left of the list, run from here, gives what the whole list gives. Assumes nothing.
use Rattle.std.proofs.Common.{ap, ◌∙◌}
use Rattle.order.proofs.RunLoop.{run-one, run_end}
use Rattle.queue.proofs.Through.{act-vlr, vlr_of}
use Rattle.queue.proofs.runs.Program.walk.Goals as goal

pub loop-x-preserved : goal.loop-x-preserved
loop-x-preserved c =
    let a = c.args in (
      ap vlr_of c.enter-progress.ensures ∙ act-vlr _ a.self.now.scalars.now _ _ ∙ c.loop-x.invariant.0,
      run-one _ _ _ _ _ c.loop-x.invariant.1 c.loop-x-test.true _
          c.enter-progress.ensures,
    )

pub returns : goal.returns
returns c = run_end _ _ _ _ _ c.loop-x.invariant.1 c.loop-x-test.false
