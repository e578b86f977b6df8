-- `control_in` meets its contract: its five records are the definition's. Assumes nothing.
use Rattle.saved.proofs.Loading.{control-made}
use borrow.Author.Rules.{rules}
use Rattle.saved.proofs.control_in.Goals as goal

pub returns : goal.returns
returns c = search (control-made, rules)
