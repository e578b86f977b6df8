-- `line` meets its contract: its three writings follow one another. Assumes nothing.
use native.Mathlib.Omega.{arith}
use Rattle.listing.proofs.Writing.{line_wrote}
use Rattle.listing.proofs.write.Writer.line.Goals as goal

pub returns : goal.returns
returns c = line_wrote _ _ _ (omega arith) c.push.ensures c.number.ensures c.push-2.ensures
