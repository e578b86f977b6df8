-- `effect` meets its contract: compares, IOTA, and works that write elements. Assumes nothing.
use mathlib.Core.Path.{sym, ◌∙◌}
use Rattle.machine.proofs.Values.{valued}
use borrow.Author.Rules.{rules}
use Rattle.machine.proofs.instruction.effect.Goals as goal

pub returns : goal.returns
returns c =
    let no-mask = sym c.writes_mask.ensures ∙ c.if-writes_mask.false in
    let no-iota = sym c.in_one_step.ensures ∙ c.if-in_one_step.false in
    let a = c.args in
    λ d g r f h.
    valued a.instruction a.scalar a.which _ d g (rw f (search rules)) (search rules) no-mask no-iota _ c.over-types.result c.noted.result
    (rw (f, ← c.matched-mask.ensures) c.over-types.ensures)
    (rw (f, h) c.noted.ensures)
