-- `from_longword` meets its contract: zero gives zero, and any other longword the word of its sign and size. Assumes nothing.
use Rattle.floating.proofs.Converting.{longword-none, longword-some}
use Rattle.std.proofs.Common.{rules}
use Rattle.floating.proofs.convert.from_longword.Goals as goal

pub returns-then-l-eq0 : goal.returns-then-l-eq0
returns-then-l-eq0 c = search (longword-none, rules)

pub returns : goal.returns
returns c = search (longword-some, rules)
