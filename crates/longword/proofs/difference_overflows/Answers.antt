-- `difference_overflows` meets its contract: a difference overflows where its sum with b, which is a, does. Assumes nothing.
use Rattle.std.proofs.Common.{rules}
use Rattle.longword.proofs.Overflow.{difference-overflow}
use Rattle.longword.proofs.difference_overflows.Goals as goal

pub returns : goal.returns
returns c = search (difference-overflow, rules)
