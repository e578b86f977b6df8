-- `integer::add` meets its contract: the low 32 bits of the true sum, and its overflow where EXC asks. Assumes nothing.
use Rattle.numbers.proofs.Longwords.{low32-fits}
use Rattle.element.proofs.integer.add.Goals as goal

pub place-requires : goal.place-requires
place-requires c = rw c.sum.ensures (low32-fits _)
