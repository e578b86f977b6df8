-- `element_line` meets its contract: its five writings follow one another. Assumes nothing.
use Rattle.listing.proofs.Writing.{element-wrote}
use Rattle.listing.proofs.write.Writer.element_line.Goals as goal

pub returns : goal.returns
returns c = element-wrote _ _ _ c.requires c.push.ensures c.number.ensures c.push-2.ensures c.number-2.ensures c.line.ensures
