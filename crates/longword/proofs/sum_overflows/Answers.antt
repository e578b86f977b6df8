-- `sum_overflows` meets its contract: a sum overflows where its sign is that of neither term. Assumes nothing.
use Rattle.std.proofs.Common.{rules}
use Rattle.longword.proofs.Overflow.{sum-overflow}
use Rattle.longword.proofs.sum_overflows.Goals as goal

pub returns : goal.returns
returns c = search (sum-overflow, rules)
