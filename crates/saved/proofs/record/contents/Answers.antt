-- `contents` meets its contract. Assumes nothing.
use Rattle.saved.proofs.Parts.{contents_bytes}
use Rattle.saved.proofs.record.contents.Goals as goal

pub returns : goal.returns
returns c = contents_bytes _ _ c.told-record c.quadword.ensures
