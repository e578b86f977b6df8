-- `bits_of` meets its contract: the bits are a binary64 number's, a longword's or the code. Assumes nothing.
use Rattle.floating.proofs.Signed.{longword-bits}
use Rattle.std.proofs.Common.{rules}
use Rattle.floating.proofs.read.bits_of.Goals as goal

pub returns-in-Longword : goal.returns-in-Longword
returns-in-Longword c = search (longword-bits, rules)
