-- `read_longword` meets its contract: what is shown is the longword, whose bits are the word. Assumes nothing.
use Rattle.floating.proofs.Shown.{shows-longword}
use Rattle.floating.proofs.read_longword.Goals as goal

pub returns : goal.returns
returns c = shows-longword c.args.word c.cast_signed.result c.ranges.word c.cast_signed.ensures
