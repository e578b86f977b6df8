-- `unfilled` meets its contract. Assumes nothing.
use Rattle.running.proofs.Parts.{fillers}
use Rattle.running.proofs.record.unfilled.Goals as goal

pub returns : goal.returns
returns c = fillers _ c.told-record _ c.eq.ensures
