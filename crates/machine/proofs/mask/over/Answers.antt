-- `over` meets its contract: the bits of the set are what was found, and the notes tell whether one of them was refused. Assumes nothing.
use Rattle.machine.proofs.Compares.{is-compare, compared}
use borrow.Author.Tests.{eq-eqb, ne_eqb}
use mathlib.Core.Path.{refl, sym}
use Rattle.machine.proofs.mask.over.Goals as goal

pub found-m-requires : goal.found-m-requires
found-m-requires c =
    (is-compare c.args.instruction c.requires.below.2, c.requires.below.0, c.requires.below.1)

pub returns-then-refused-eq0 : goal.returns-then-refused-eq0
returns-then-refused-eq0 c =
    let a = c.args in
    λ d g e f.
    compared a.instruction a.scalar a.which _ d g c.requires.below.2 a.n c.found-m.result.found c.found-m.result.refused
    (record { vmr = _; vcr = _; notes = _; wrote = 0 }) c.requires.below.1 c.requires.within c.found-m.ensures.found c.found-m.ensures.refused
    (λ k. rw e (c.replaced.ensures k)) (sym f) (rw (eq-eqb _ _ c.if-refused-eq0.true)) refl

pub returns-else-refused-eq0 : goal.returns-else-refused-eq0
returns-else-refused-eq0 c =
    let a = c.args in
    λ d g e f.
    compared a.instruction a.scalar a.which _ d g c.requires.below.2 a.n c.found-m.result.found c.found-m.result.refused
    (record { vmr = _; vcr = _; notes = _; wrote = 0 }) c.requires.below.1 c.requires.within c.found-m.ensures.found c.found-m.ensures.refused
    (λ k. rw e (c.replaced.ensures k)) (sym f) (rw (ne_eqb _ _ c.if-refused-eq0.false)) refl
