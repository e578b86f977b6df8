-- `Program::enter` meets its contract: the entry's step, by its position and element. Assumes nothing.
use borrow.Author.Rules.{rules}
use Rattle.queue.proofs.Through.{acts-by}
use Rattle.queue.proofs.runs.Program.enter.Goals as goal

pub step-requires : goal.step-requires
step-requires c = let b = c.args.self.now.runs _ c.requires.1 in (b.below, b.work, c.requires.0, search rules)

pub returns : goal.returns
returns c = acts-by _ _ _ _ _ c.step.ensures
