-- `join` meets its contract. Assumes nothing.
use borrow.Author.Rules.{rules}
use Rattle.touch.proofs.Touching.{joins_at}
use Rattle.touch.proofs.join.Goals as goal

pub returns : goal.returns
returns c = search (joins_at, rules)
