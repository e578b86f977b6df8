-- `element_lines` meets its contract: after k turns the lines of the first k elements stand in the text. Assumes nothing.
use native.Mathlib.Omega.{arith}
use Rattle.listing.proofs.Printing.{starts, turns}
use borrow.Author.Rules.{rules}
use Rattle.listing.proofs.write.Writer.element_lines.Goals as goal

pub loop-k-init : goal.loop-k-init
loop-k-init c = search (starts, rules)

pub loop-k-preserved : goal.loop-k-preserved
loop-k-preserved c = (omega arith, turns _ _ c.loop-k.invariant.1 c.element_text.ensures.0 (omega arith), omega arith)
