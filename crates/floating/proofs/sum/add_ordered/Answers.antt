-- `add_ordered` meets its contract: the aligned digits are zero, or they deliver the sum or the difference. Assumes nothing.
use Rattle.std.proofs.Common.{ap, ◌∙◌, lit<, lit≤, rules}
use Rattle.floating.specs.Format.{F}
use Rattle.floating.specs.Operations.{answered}
use Rattle.floating.proofs.Sums.{ordered-asked, ordered-none, ordered-placed}
use Rattle.floating.proofs.Refusing.{answer_word}
use Rattle.floating.proofs.sum.add_ordered.Goals as goal

pub aligned-x-requires : goal.aligned-x-requires
aligned-x-requires c =
    let small = ordered-asked F c.args.k c.args.l _ _ (search rules) c.from-a.ensures c.from-b.ensures in
    (search rules, search rules, search rules, search rules, small)

pub returns-then-x-eq0 : goal.returns-then-x-eq0
returns-then-x-eq0 c =
    let told = c.args in
    answer_word told.exc _ 0
    (ordered-none F told.k told.l _ _ (search rules) c.from-a.ensures c.from-b.ensures told.minus _ (lit< tt)
    c.aligned-x.ensures told.s c.if-x-eq0.true)

pub returns : goal.returns
returns c =
    let told = c.args in
    let placed =
    ordered-placed F told.k told.l _ _ (search rules) c.from-a.ensures c.from-b.ensures told.minus _ (lit< tt)
    c.aligned-x.ensures in
    c.of_digits.ensures ∙ ap (answered told.exc) (placed 64 told.s (lit≤ tt) c.if-x-eq0.false)
