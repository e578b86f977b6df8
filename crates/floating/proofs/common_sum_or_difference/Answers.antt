-- `common_sum_or_difference` meets its contract: by the sign with which the second is added, where neither is zero or reserved. Assumes nothing.
use Rattle.std.proofs.Common.{ap, ◌∙◌}
use Rattle.floating.specs.Format.{F}
use Rattle.floating.specs.Operations.{answered}
use Rattle.floating.proofs.Packing.{F-sound}
use Rattle.floating.proofs.Sums.{combined-sum}
use Rattle.floating.proofs.common_sum_or_difference.Goals as goal

pub returns : goal.returns
returns c =
    let a = c.args in
    let t = c.sign_added in
    c.add_common.ensures ∙ ap (answered a.exc) (combined-sum F F-sound a.a a.b a.minus t.result t.ensures.1)
