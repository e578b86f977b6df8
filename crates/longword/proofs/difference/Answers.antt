-- `difference` meets its contract: the wrapped difference of the low halves is the low 32 bits of the true difference. Assumes nothing.
use Rattle.std.proofs.Common.{rules}
use Rattle.longword.proofs.LowBits.{subtracted}
use Rattle.longword.proofs.difference.Goals as goal

pub returns : goal.returns
returns c = search (subtracted, rules)
