-- `load` meets its contract: all records are judged before anything is written. Assumes nothing.
use Rattle.state.specs.State.{state}
use Rattle.saved.proofs.Loading.{room, loads, refuses}
use borrow.Author.Rules.{rules}
use Rattle.saved.proofs.load.Goals as goal

pub fill-requires : goal.fill-requires
fill-requires c = search (room, rules)

pub control_in-requires : goal.control_in-requires
control_in-requires c = search (room, rules)

pub returns-then-k-file : goal.returns-then-k-file
returns-then-k-file c = search (loads, rules)

pub returns : goal.returns
returns c = refuses _ _ c.leading-k.ensures (state _ _) c.if-k-file.false
