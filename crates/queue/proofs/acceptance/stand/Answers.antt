-- `stand` meets its contract: by the law of each answer. Assumes nothing.
use borrow.Author.Rules.{rules}
use Rattle.queue.proofs.Accepting.{refused-12, refused-8, refused-3, refused-not}
use Rattle.queue.proofs.acceptance.stand.Goals as goal

pub returns-then-not-in_range : goal.returns-then-not-in_range
returns-then-not-in_range c = search (refused-12, rules)

pub returns-then-not-well_formed : goal.returns-then-not-well_formed
returns-then-not-well_formed c = search (refused-8, rules)

pub returns-then-not-enabled : goal.returns-then-not-enabled
returns-then-not-enabled c = search (refused-3, rules)

pub returns : goal.returns
returns c = search (refused-not, rules)
