-- `product` meets its contract: the low 32 bits of the product of the low halves are those of the true product. Assumes nothing.
use Rattle.std.proofs.Common.{rules}
use Rattle.longword.proofs.LowBits.{product-low}
use Rattle.longword.proofs.product.Goals as goal

pub returns : goal.returns
returns c = search (product-low, rules)
