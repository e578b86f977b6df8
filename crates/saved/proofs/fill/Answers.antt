-- `fill` meets its contract: after k turns the first k elements are the file's. Assumes nothing.
use borrow.Author.Rules.{rules}
use Rattle.saved.proofs.Loading.{fill-starts, fill-turns}
use Rattle.saved.proofs.fill.Goals as goal

pub loop-k-init : goal.loop-k-init
loop-k-init c = search (fill-starts, rules)

pub loop-k-preserved : goal.loop-k-preserved
loop-k-preserved c = search (fill-turns, rules)
