-- `whole` meets its contract: the work of the set of all elements that are operated on is the instruction. Assumes nothing.
use Rattle.machine.proofs.Chosen.{whole}
use mathlib.Core.Path.{refl, ◌∙◌}
use Rattle.machine.proofs.instruction.whole.Goals as goal

pub returns : goal.returns
returns c =
    c.effected.ensures _ ∙ c.effect-done.ensures _ _ refl refl refl ∙ whole _ _ _ _ c.requires.2 c.operated-which.ensures
