-- `bits::chosen_below` meets its contract. Assumes nothing.
use borrow.Author.Rules.{rules}
use Rattle.numbers.proofs.SetBits.{all-chosen, ones-chosen, zeros-chosen}
use Rattle.numbers.proofs.bits.chosen_below.Goals as goal

pub returns-then-asked : goal.returns-then-asked
returns-then-asked c = search (ones-chosen, rules)

pub returns-then-masked : goal.returns-then-masked
returns-then-masked c = search (zeros-chosen, rules)

pub returns : goal.returns
returns c = search (all-chosen, rules)
