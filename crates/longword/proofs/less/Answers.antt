-- `less` meets its contract: in excess by 2^31 the order is that of natural numbers. Assumes nothing.
use Rattle.std.proofs.Common.{rules}
use Rattle.longword.proofs.Order.{is-less}
use Rattle.longword.proofs.less.Goals as goal

pub returns : goal.returns
returns c = search (is-less, rules)
