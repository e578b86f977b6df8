-- `bits::replaced` meets its contract. Assumes nothing.
use borrow.Author.Rules.{rules}
use Rattle.numbers.proofs.Sets.{replaces}
use Rattle.numbers.proofs.bits.replaced.Goals as goal

pub returns : goal.returns
returns c = search (replaces, rules)
