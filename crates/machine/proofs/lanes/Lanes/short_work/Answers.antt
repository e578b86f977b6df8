-- `short_work` meets its contract: without EXC nothing is recorded. Assumes nothing.
use Rattle.machine.proofs.Recording.{gated_set}
use Rattle.machine.proofs.lanes.Lanes.short_work.Goals as goal

pub returns-else-self : goal.returns-else-self
returns-else-self g c =
    let i = c.args.self.instruction in
    gated_set _ _ c.requires.0 i _ i.exc _ _ _ _ (rw c.if-self.false) _ c.chosen-types.ensures
