-- `of_one_more` meets its contract: one digit more than are kept, rounded, delivers what the number does. Assumes nothing.
use Rattle.std.proofs.Common.{◌+◌, ap, ◌∙◌, lit<, lit≤, rules}
use Rattle.floating.specs.Format.{F}
use Rattle.floating.specs.Operations.{answered}
use Rattle.floating.proofs.Delivering.{placed-here}
use Rattle.floating.proofs.deliver.of_one_more.Goals as goal

pub returns : goal.returns
returns c =
    let a = c.args in
    let m = c.nearest in
    c.judged.ensures
    ∙ ap (answered a.exc)
    (placed-here F (F.bits + 1) a.s a.x a.e a.down m.result (lit< tt) (lit≤ tt) (search rules) (search rules) m.ensures.0)
