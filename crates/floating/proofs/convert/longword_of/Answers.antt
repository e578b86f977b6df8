-- `longword_of` meets its contract: the low 32 bits of n, or with the sign 1 of minus n. Assumes nothing.
use Rattle.floating.proofs.Converting.{longword-made}
use Rattle.std.proofs.Common.{rules}
use Rattle.floating.proofs.convert.longword_of.Goals as goal

pub returns : goal.returns
returns c = search (longword-made, rules)
