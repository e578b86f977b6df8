-- `alone` meets its contract: of the exponent 0 zero, and else the magnitude with the sign. Assumes nothing.
use Rattle.floating.specs.Format.{F}
use Rattle.floating.proofs.Sums.{none-delivered, alone-made}
use Rattle.std.proofs.Common.{rules}
use Rattle.floating.proofs.sum.alone.Goals as goal

pub returns-then-exponent_of-eq0 : goal.returns-then-exponent_of-eq0
returns-then-exponent_of-eq0 c = search (none-delivered F, rules)

pub returns : goal.returns
returns c = search (alone-made, rules)
