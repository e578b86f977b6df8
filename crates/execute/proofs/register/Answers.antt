-- `register` meets its contract: the instruction, whole, is the run. Assumes nothing.
use Rattle.machine.specs.declared.Progress.{Progress}
use Rattle.machine.specs.Run.{finished, under_way}
use Rattle.machine.specs.Instruction.{whole_of, instruction_done}
use Rattle.machine.proofs.Gather.{finishes}
use mathlib.Core.Path.{ap, ◌∙◌}
use Rattle.execute.proofs.register.Goals as goal

pub whole-requires : goal.whole-requires
whole-requires c = (c.requires.0, c.requires.1, rw c.begin.ensures c.requires.2)

pub returns : goal.returns
unfolding instruction_done
returns c =
    let a = c.args in
    finishes _ _ c.whole.result _ c.end.ensures
    ∙ ap finished
    (c.whole.ensures
    ∙ ap (λ (p : Progress). whole_of a.instruction a.scalar (under_way a.elements.now a.marks.now p)) c.begin.ensures)
