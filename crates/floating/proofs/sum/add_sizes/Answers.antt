-- `add_sizes` meets its contract: the larger magnitude comes first, and its sign with it. Assumes nothing.
use Rattle.std.proofs.Common.{ap, ◌∙◌}
use Rattle.floating.specs.Format.{F}
use Rattle.floating.specs.Operations.{answered}
use Rattle.floating.proofs.Sums.{chosen-delivered}
use Rattle.floating.proofs.sum.add_sizes.Goals as goal

pub returns : goal.returns
returns c =
    let a = c.args in
    c.add_ordered.ensures
    ∙ ap (answered a.exc)
    (chosen-delivered F a.s a.a a.t a.b _ _ _ c.chosen.ensures c.chosen-k.ensures
    c.chosen-l.ensures)
