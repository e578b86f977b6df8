-- `scalar` meets its contract. Assumes nothing.
use Rattle.running.proofs.Parts.{scalar_bytes}
use Rattle.running.proofs.record.scalar.Goals as goal

pub returns : goal.returns
returns c = scalar_bytes _ c.told-record _ c.quadword.ensures
