-- `equal` meets its contract: two longwords are equal where their low halves are. Assumes nothing.
use Rattle.std.proofs.Common.{rules}
use Rattle.longword.proofs.Order.{is-equal}
use Rattle.longword.proofs.equal.Goals as goal

pub returns : goal.returns
returns c = search (is-equal, rules)
