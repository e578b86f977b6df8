-- `Access::test` meets its contract. Assumes nothing.
use Rattle.memory.proofs.Testing.{none-bad}
use Rattle.memory.proofs.access.Access.test.Goals as goal

pub returns-then-all_at_once : goal.returns-then-all_at_once
returns-then-all_at_once c =
    let all = c.all_at_once.ensures c.if-all_at_once.true in
    none-bad _ _ _ _ _ _ c.args.self.below all.0 all.1
