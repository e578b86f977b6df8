-- `order_of` meets its contract: levels rise with the numbers, and fall where one is negative. Assumes nothing.
use Rattle.std.proofs.Common.{refl}
use Rattle.floating.specs.Format.{F}
use Rattle.floating.proofs.Packing.{F-sound}
use Rattle.floating.proofs.Ordering.{order-chosen}
use Rattle.floating.proofs.order.order_of.Goals as goal

pub returns : goal.returns
returns c =
    let a = c.args in
    order-chosen F F-sound a.a a.b _ _ _ c.requires.0 c.requires.1 c.level_of-x.ensures c.level_of-y.ensures _ _ _ refl c.chosen.ensures c.chosen-2.ensures
    c.cmp.ensures
