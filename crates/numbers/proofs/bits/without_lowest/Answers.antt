-- `bits::without_lowest` meets its contract. Assumes nothing.
use borrow.Author.Rules.{rules}
use Rattle.numbers.proofs.SetBits.{lowest, taken}
use Rattle.numbers.proofs.bits.without_lowest.Goals as goal

pub returns : goal.returns
returns c = search (taken, lowest, rules)
