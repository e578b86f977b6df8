-- `sum` meets its contract: the wrapped sum of the low halves is the low 32 bits of the true sum. Assumes nothing.
use Rattle.std.proofs.Common.{rules}
use Rattle.longword.proofs.LowBits.{summed}
use Rattle.longword.proofs.sum.Goals as goal

pub returns : goal.returns
returns c = search (summed, rules)
