-- `whole_below` meets its contract: twice the number is cut down, one is added to round, and half of that is the number made whole. Assumes nothing.
use Rattle.std.proofs.Common.{arith, rules}
use Rattle.floating.proofs.Align.{one-bit, cut_small}
use Rattle.floating.proofs.Converting.{cut-whole}
use Rattle.floating.proofs.convert.whole_below.Goals as goal

pub returns : goal.returns
returns c =
    let o = one-bit c.args.rounded in
    let s = cut_small _ _ _ c.cut_down.ensures in
    (rw c.from.ensures (search (cut-whole, rules)), omega arith)
