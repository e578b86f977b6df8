-- `bits::Ones::next` meets its contract. Assumes nothing.
use borrow.Author.Rules.{rules}
use Rattle.numbers.proofs.SetBits.{lowest-below, lowest-smaller}
use Rattle.numbers.proofs.bits.OnesIterator.next.Goals as goal

pub returns-clause-goes : goal.returns-clause-goes
returns-clause-goes c = search (lowest-below, lowest-smaller, rules)
