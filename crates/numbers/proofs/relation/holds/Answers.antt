-- `holds` meets its contract. Assumes nothing.
use Rattle.numbers.proofs.Relations.{by_parts_lem}
use borrow.Author.Rules.{rules}
use Rattle.numbers.proofs.relation.holds.Goals as goal

pub returns : goal.returns
returns c = search (by_parts_lem, rules)
