-- `floating` meets its contract: a word is shown as a reserved operand, as zero or as its number. Assumes nothing.
use Rattle.floating.specs.Format.{F}
use Rattle.floating.proofs.Shown.{shows-zero}
use Rattle.std.proofs.Common.{rules}
use Rattle.floating.proofs.read.floating.Goals as goal

pub returns-then-exponent_of-eq0 : goal.returns-then-exponent_of-eq0
returns-then-exponent_of-eq0 c = search (shows-zero F, rules)
