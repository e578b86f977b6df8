-- `of_two_more` meets its contract: one or two digits more than are kept, moved up to two and rounded, deliver what the number does. Assumes nothing.
use Rattle.std.proofs.Common.{ℕ, ◌+◌, ◌-◌, ◌^◌, ap, ◌∙◌, lit<, lit≤}
use Rattle.floating.specs.Format.{F}
use Rattle.floating.specs.Round.{near}
use Rattle.floating.specs.Operations.{answered}
use Rattle.floating.proofs.Delivering.{placed-settled}
use Rattle.floating.proofs.deliver.of_two_more.Goals as goal

pub returns : goal.returns
returns c =
    let a = c.args in
    let m = c.nearest_of_two in let e = c.places_short-z.ensures in
    let rounds = m.ensures.0 ∙ ap (λ (v : ℕ). near v (2 ^ (F.bits + 2 - F.bits))) c.doubled_once.ensures in
    c.judged.ensures
    ∙ ap (answered a.exc)
    (placed-settled F (F.bits + 2) a.s a.x a.e a.down c.places_short-z.result m.result (lit< tt) (lit≤ tt) e.1 e.2 rounds)
