-- `bits::with_bit` meets its contract. Assumes nothing.
use borrow.Author.Rules.{rules}
use Rattle.numbers.proofs.BitLaws.{word-with-bit, word-with-bit-lt}
use Rattle.numbers.proofs.bits.with_bit.Goals as goal

pub overflow_add-result : goal.overflow_add-result
overflow_add-result c = search (word-with-bit-lt, rules)

pub returns : goal.returns
returns c = search (word-with-bit, rules)
