-- `first_digits` meets its contract: the halves are of 12 digits, and all but the last ten of the middle are wanted. Assumes nothing.
use Rattle.std.proofs.Common.{◌-◌, ◌/◌, refl, lit≤}
use Rattle.floating.specs.Format.{F}
use Rattle.floating.proofs.Halves.{by-halves, product-digits}
use Rattle.floating.proofs.product.first_digits.Goals as goal

pub returns : goal.returns
returns c =
    let a = c.args in let p = c.requires in
    product-digits F.bits a.a a.b _ (lit≤ tt) p.0 p.1 p.2 p.3
    (by-halves (F.bits / 2) a.a a.b (F.bits / 2 - 2) 2 refl _ _ _ _ c.of_halves.ensures.0 c.of_halves-2.ensures.0 c.of_halves-3.ensures.0
    c.of_halves-4.ensures.0)
