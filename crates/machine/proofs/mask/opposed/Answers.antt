-- `opposed` meets its contract: with bit <2> what was neither found nor refused, and without it what was found. Assumes nothing.
use mathlib.Core.Path.{refl, ap, ◌∙◌}
use mathlib.Core.Bool.{not}
use lib.Bits.{or_lt}
use borrow.Author.Rules.{rules}
use borrow.Author.Tests.{eq-eqb}
use Rattle.numbers.proofs.BitLaws.{bit-complement}
use Rattle.numbers.proofs.Sets.{bit-or}
use Rattle.machine.proofs.mask.opposed.Goals as goal

pub returns-then-relation-eq1 : goal.returns-then-relation-eq1
returns-then-relation-eq1 c = record
    { found = λ i h. rw (eq-eqb _ _ c.if-relation-eq1.true) (bit-complement 64 _ i (search (or_lt, rules)) h ∙ ap not (bit-or _ _ i)); refused = refl }
