-- `product_overflows` meets its contract: a product overflows where, plus 2^31 and modulo 2^64, it is 2^32 or more. Assumes nothing.
use Rattle.std.proofs.Common.{rules}
use Rattle.longword.proofs.ProductRange.{product-overflow}
use Rattle.longword.proofs.product_overflows.Goals as goal

pub returns : goal.returns
returns c = search (product-overflow, rules)
