-- `multiply_special` meets its contract: a reserved factor is recorded, and a zero one makes zero. Assumes nothing.
use Rattle.floating.specs.Format.{F}
use Rattle.floating.proofs.Products.{special-product}
use Rattle.floating.proofs.Refusing.{some-zero}
use Rattle.std.proofs.Common.{rules}
use Rattle.floating.proofs.product.multiply_special.Goals as goal

pub returns : goal.returns
returns c =
    let a = c.args in
    let zero = some-zero F a.a a.b c.requires in
    search (special-product F, rules)
