-- `holds` meets its contract: a relation names one order, or all but it. Assumes nothing.
use Rattle.std.proofs.Common.{refl, ◌%◌, arith}
use Rattle.floating.proofs.Ordering.{one-named, named-holds}
use Rattle.floating.proofs.order.holds.Goals as goal

pub returns : goal.returns
returns c =
    let k = c.args.relation in
    let o = c.args.order in
    rw c.named_by.ensures (named-holds k (k % 4) o _ refl (one-named o (k % 4) (omega arith)))
