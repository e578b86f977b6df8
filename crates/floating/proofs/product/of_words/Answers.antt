-- `of_words` meets its contract: one is zero or reserved, or the first digits of the product of the significands are delivered. Assumes nothing.
use Rattle.std.proofs.Common.{◌+◌, ◌-◌, sym, ap, ◌∙◌, lit<, lit≤}
use Rattle.floating.specs.Format.{F}
use Rattle.floating.specs.Operations.{answered}
use Rattle.floating.proofs.Refusing.{none-zero, special-tested}
use Rattle.floating.proofs.Products.{product-cut}
use Rattle.floating.proofs.product.of_words.Goals as goal

pub returns : goal.returns
returns c =
    let a = c.args in
    let x = c.first_digits-x.ensures in
    let fields = special-tested F a.a a.b _ _ c.exponent_of-ea.ensures c.exponent_of-eb.ensures in
    let n = none-zero F a.a a.b (sym fields ∙ c.if-ea-eb.false) in
    c.of_two_more.ensures
    ∙ ap (answered a.exc)
    (product-cut F a.a a.b (F.bits + 2) (F.bits - 2) _ _ _ _ _ _ (lit< tt) (lit≤ tt) c.sign_of_product-s.ensures.0 c.exponent_of-ea.ensures
    c.exponent_of-eb.ensures n.0 n.1 c.short_significand_of.ensures c.short_significand_of-2.ensures x.0 x.1)
