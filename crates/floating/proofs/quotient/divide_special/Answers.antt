-- `divide_special` meets its contract: a divisor of zero and reserved operands are recorded, and zero by a number is zero. Assumes nothing.
use Rattle.floating.specs.Format.{F}
use Rattle.floating.proofs.Quotients.{special-quotient}
use Rattle.floating.proofs.Refusing.{some-zero}
use Rattle.floating.proofs.quotient.divide_special.Goals as goal

pub returns : goal.returns
returns c =
    let a = c.args in
    special-quotient F a.a a.b _ _ (some-zero F a.a a.b c.requires) c.special_type-t.ensures.0 c.chosen.ensures
