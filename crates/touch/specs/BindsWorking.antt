-- Which steps bind each other, by what the rows of their two instructions say and by register numbers alone: a closed form between the places of
-- specs/Touch.antt (proofs/Binding.antt) and the tables of specs/TablesWorking.antt (proofs/Noting.antt). No promise of a call cites it.
use Rattle.std.specs.Prelude.{Bool, ◌&&◌, ◌||◌, ℕ, eqb}
use Rattle.numbers.specs.Choice.{pick}
use Rattle.opcodes.specs.declared.Instruction.{Instruction}
use Rattle.opcodes.specs.Opcodes.{writes_mask, in_one_step, reads_va, reads_vb, reads_mask}

-- ---- whole places: registers 0 to 15, and 16 for the mask bits. Element i of a register, and mask bit i, is place 64 times that and i more.
-- what an instruction writes, beside the count
abbrev pub target : Instruction → ℕ
target ins = pick (writes_mask ins) 16 ins.vc.0

-- it reads the place
abbrev pub reads_place : Instruction → ℕ → Bool
reads_place ins s = reads_vb ins && eqb s ins.vb.0 || reads_va ins && eqb s ins.va.0 || reads_mask ins && eqb s 16

-- both touch the same place, or the count, and at least one writes it
unfoldable pub binds : Instruction → Instruction → Bool
binds a b = eqb (target a) (target b) || reads_place b (target a) || reads_place a (target b) || in_one_step a && in_one_step b

-- so their steps of elements i and j bind: one for all elements touches every element, any other only its own
unfoldable pub steps_bind : Instruction → ℕ → Instruction → ℕ → Bool
steps_bind a i b j = (in_one_step a || in_one_step b || eqb i j) && binds a b
