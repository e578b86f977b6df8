-- `well_formed` meets its contract. Assumes nothing.
use Rattle.running.proofs.Queues.{formed}
use Rattle.running.proofs.records.well_formed.Goals as goal

pub returns : goal.returns
returns c = formed _ _ _ c.as_chunks.ensures.front c.all_unfilled.ensures
