-- `aligned` meets its contract: cut down for a sum, up for a difference, the smaller number leaves the whole part. Assumes nothing.
use Rattle.std.proofs.Common.{◌+◌, ◌^◌, ◌∙◌, ap, arith, rules}
use Rattle.std.specs.Int.{from_bool}
use Rattle.floating.specs.Format.{F}
use Rattle.floating.proofs.Align.{minus-cut, plus-cut}
use Rattle.floating.proofs.sum.aligned.Goals as goal

pub returns-then-minus : goal.returns-then-minus
returns-then-minus c =
    let a = c.args in
    rw c.if-minus.true
    (minus-cut (2 ^ (F.bits + 2)) c.from-o.result a.a a.b a.d _ c.cut_down.ensures (c.from-o.ensures ∙ ap from_bool c.if-minus.true) (omega arith)
    (search rules))

pub returns-else-minus : goal.returns-else-minus
returns-else-minus c =
    let a = c.args in
    rw c.if-minus.false
    (plus-cut (2 ^ (F.bits + 2)) c.from-o.result a.a a.b a.d _ c.cut_down.ensures (c.from-o.ensures ∙ ap from_bool c.if-minus.false))
