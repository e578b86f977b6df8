-- `element_text` meets its contract: a zero element has no line. Assumes nothing.
use Rattle.listing.proofs.Printing.{none-writes, one-writes}
use Rattle.listing.proofs.write.Writer.element_text.Goals as goal

pub returns-then-contents-ne0 : goal.returns-then-contents-ne0
returns-then-contents-ne0 c = one-writes _ _ c.if-contents-ne0.true c.element_line.ensures

pub returns-else-contents-ne0 : goal.returns-else-contents-ne0
returns-else-contents-ne0 c = none-writes _ _ _ c.if-contents-ne0.false
