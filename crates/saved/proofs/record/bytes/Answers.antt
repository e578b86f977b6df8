-- `bytes` meets its contract: the number and the contents stand over zeros. Assumes nothing.
use Rattle.std.proofs.Common.{◌∙◌, refl}
use Rattle.numbers.proofs.LittleEndian.{eight-bytes}
use Rattle.saved.specs.File.{record_bytes}
use Rattle.saved.proofs.record.bytes.Goals as goal

pub returns : goal.returns
unfolding record_bytes
returns c =
    rw (c.copy_from_slice.ensures.after, c.to_le_bytes.ensures, c.copy_from_slice-2.ensures.after, c.to_le_bytes-2.ensures ∙ eight-bytes c.args.contents) refl
