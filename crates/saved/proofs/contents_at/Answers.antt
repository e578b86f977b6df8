-- `contents_at` meets its contract: the part that it lends is record k. Assumes nothing.
use Rattle.std.proofs.Common.{◌∙◌, ap, arith}
use Rattle.numbers.proofs.Chunks.{chunk-of}
use Rattle.saved.specs.Load.{contents_in}
use Rattle.saved.proofs.contents_at.Goals as goal

pub returns : goal.returns
returns c = c.contents.ensures ∙ ap contents_in (chunk-of 16 _ _ _ _ (omega arith) c.as_chunks.ensures.front)
