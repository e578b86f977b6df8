-- A whole register instruction: its steps in rising order. IOTA is one step, also at VLR 0.
use Rattle.std.specs.Prelude.{ℕ, zero, suc}
use Rattle.numbers.specs.Choice.{pick}
use Rattle.state.specs.Marks.{Marked}
use Rattle.opcodes.specs.declared.Instruction.{Instruction}
use Rattle.opcodes.specs.Opcodes.{in_one_step}
use Rattle.machine.specs.Run.{Run, begun, finished}
use Rattle.machine.specs.Step.{element_step}
use Rattle.machine.specs.Iota.{iota_step}

-- the step of element i of an instruction; an IOTA's is the same for every i, of which only 0 is a step
unfoldable pub step_of : Instruction → ℕ → ℕ → Run → Run
step_of ins scalar i r = pick (in_one_step ins) (iota_step ins scalar r) (element_step ins scalar i r)

-- the steps of the elements below n, in rising order
unfoldable pub steps_below : ℕ → Instruction → ℕ → Run → Run
steps_below zero ins scalar r = r
steps_below (suc n) ins scalar r = step_of ins scalar n (steps_below n ins scalar r)

-- how many steps an instruction has
abbrev pub step_count : Instruction → ℕ → ℕ
step_count ins vlr = pick (in_one_step ins) 1 vlr

unfoldable pub whole_of : Instruction → ℕ → Run → Run
whole_of ins scalar r = steps_below (step_count ins r.control.vlr) ins scalar r

-- a register instruction by itself
unfoldable pub instruction_done : Instruction → ℕ → Marked → Marked
instruction_done ins scalar b = finished (whole_of ins scalar (begun b))
