-- `of_words` meets its contract: one is zero or reserved, or the whole quotient of the significands is delivered. Assumes nothing.
use Rattle.std.proofs.Common.{sym, ap, ◌∙◌, lit<, rules}
use Rattle.floating.specs.Format.{F}
use Rattle.floating.specs.Operations.{answered}
use Rattle.floating.proofs.Refusing.{none-zero, special-tested}
use Rattle.floating.proofs.Quotients.{quotient-placed}
use Rattle.floating.proofs.quotient.of_words.Goals as goal

pub returns : goal.returns
returns c =
    let a = c.args in
    let x = c.whole_quotient-x.ensures in
    let fields = special-tested F a.a a.b _ _ c.exponent_of-ea.ensures c.exponent_of-eb.ensures in
    let n = none-zero F a.a a.b (sym fields ∙ c.if-ea-eb.false) in
    let placed =
    quotient-placed F a.a a.b _ _ _ _ _ _ _ (lit< tt) (search rules) c.sign_of_product-s.ensures.0 c.exponent_of-ea.ensures n.0
    c.exponent_of-eb.ensures n.1 c.significand_of-ma.ensures c.significand_of-mb.ensures in
    c.of_one_more.ensures ∙ ap (answered a.exc) (placed x.0 x.1)
