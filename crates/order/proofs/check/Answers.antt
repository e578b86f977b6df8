-- `check` meets its contract: after i entries the sets are those of the first i. Assumes nothing.
use mathlib.Core.Path.{sym, ◌∙◌}
use Rattle.order.proofs.Marking.{all-left, pass-starts, entry-stops, entry-taken, taken-marked, list-ends}
use Rattle.order.proofs.check.Goals as goal

pub invariant_of-left : goal.invariant_of-left
invariant_of-left c = record { stays = all-left }

pub invariant_of-bindings-clause-earlier : goal.invariant_of-bindings-clause-earlier
invariant_of-bindings-clause-earlier c = c.requires.earlier

pub loop-i-init : goal.loop-i-init
loop-i-init c =
    taken-marked _ _ _ c.requires.sizes.0 c.requires.sizes.1 _ c.requires.earlier _ _ _
    (pass-starts _ _ _ c.requires.sizes.0 c.requires.sizes.1 _ c.requires.earlier _ _ c.start.ensures) _ _ c.ahead-i.ensures

pub returns-then-not-comes : goal.returns-then-not-comes
returns-then-not-comes c =
    entry-stops _ _ _ c.requires.sizes.0 c.requires.sizes.1 _ c.requires.earlier _ _ _ c.loop-i.invariant c.loop-i-test.true
    (sym c.comes.ensures.0 ∙ c.if-not-comes.true)

pub loop-i-preserved : goal.loop-i-preserved
loop-i-preserved c =
    let may = c.if-not-comes.false in
    taken-marked _ _ _ c.requires.sizes.0 c.requires.sizes.1 _ c.requires.earlier _ _ _
    (entry-taken _ _ _ c.requires.sizes.0 c.requires.sizes.1 _ c.requires.earlier _ _ _ c.loop-i.invariant c.loop-i-test.true
    (sym c.comes.ensures.0 ∙ may) _ (c.comes.ensures.1 may)) _ _ c.ahead-i-in-loop-i.ensures

pub returns : goal.returns
returns c =
    list-ends _ _ _ c.requires.sizes.0 c.requires.sizes.1 _ c.requires.earlier _ _ _ c.loop-i.invariant c.loop-i-test.false _ c.ended.ensures
