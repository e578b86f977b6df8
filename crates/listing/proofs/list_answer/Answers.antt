-- `list_answer` meets its contract: the number's digits, then a line from the space on. Assumes nothing.
use mathlib.Core.Path.{ap}
use lib.ListN.{length}
use native.Mathlib.Omega.{arith}
use Rattle.listing.proofs.Printing.{no_room, answer-listed}
use Rattle.listing.proofs.Width.{width-twenty}
use borrow.Author.Rules.{rules}
use Rattle.listing.proofs.list_answer.Goals as goal

pub returns-then-text-lt-ANSWER_ROOM : goal.returns-then-text-lt-ANSWER_ROOM
returns-then-text-lt-ANSWER_ROOM c = search (no_room, rules)

pub number-requires : goal.number-requires
number-requires c = omega (arith, width-twenty _ _ c.width.ensures, ap length c.new-writer.ensures.bytes)

pub line-requires : goal.line-requires
line-requires c =
    omega (arith, width-twenty _ _ c.width-2.ensures, width-twenty _ _ c.width.ensures, ap length c.new-writer.ensures.bytes)

pub returns : goal.returns
returns c = search (answer-listed, rules)
