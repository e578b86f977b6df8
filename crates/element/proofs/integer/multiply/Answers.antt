-- `integer::multiply` meets its contract: the low 32 bits of the true product, and its overflow where EXC asks. Assumes nothing.
use Rattle.numbers.proofs.Longwords.{low32-fits}
use Rattle.element.proofs.integer.multiply.Goals as goal

pub place-requires : goal.place-requires
place-requires c = rw c.product.ensures (low32-fits _)
