-- `of_digits` meets its contract: digits moved up to 64 and rounded deliver what the number does. Assumes nothing.
use Rattle.std.proofs.Common.{ℕ, ◌-◌, ◌^◌, ap, ◌∙◌, lit<, lit≤}
use Rattle.floating.specs.Format.{F}
use Rattle.floating.specs.Round.{near}
use Rattle.floating.specs.Operations.{answered}
use Rattle.floating.proofs.Delivering.{placed-settled}
use Rattle.floating.proofs.deliver.of_digits.Goals as goal

pub returns : goal.returns
returns c =
    let a = c.args in
    let m = c.near_of in let e = c.zeros_of-z.ensures in
    let rounds = m.ensures.0 ∙ ap (λ (v : ℕ). near v (2 ^ (64 - F.bits))) c.raised.ensures in
    c.judged.ensures
    ∙ ap (answered a.exc)
    (placed-settled F 64 a.s a.x a.e a.down c.zeros_of-z.result m.result (lit< tt) (lit≤ tt) e.1 e.2 rounds)
