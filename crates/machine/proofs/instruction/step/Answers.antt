-- `step` meets its contract: IOTA's one step, an element that is not operated on, and one that is. Assumes nothing.
use mathlib.Core.Path.{refl, sym, ◌∙◌}
use Rattle.machine.proofs.Chosen.{taken, kept, iota-done}
use Rattle.machine.proofs.instruction.step.Goals as goal

pub returns-then-in_one_step : goal.returns-then-in_one_step
returns-then-in_one_step c =
    let iota = sym c.in_one_step.ensures ∙ c.if-in_one_step.true in
    c.effected.ensures _ ∙ c.iota-done.ensures 0 _ _ refl refl ∙ iota-done _ _ _ _ _ iota

pub returns-then-not-bit : goal.returns-then-not-bit
returns-then-not-bit c =
    let no-iota = sym c.in_one_step.ensures ∙ c.if-in_one_step.false in
    kept _ _ _ _ c.requires.2 c.operated.ensures _ no-iota (sym c.bit.ensures ∙ c.if-not-bit.true)

pub returns : goal.returns
returns c =
    let no-iota = sym c.in_one_step.ensures ∙ c.if-in_one_step.false in
    c.effected-2.ensures _
    ∙ c.one-done.ensures _ _ refl refl
    ∙ taken _ _ _ _ c.requires.2 c.operated.ensures _ no-iota (sym c.bit.ensures ∙ c.if-not-bit.false)
