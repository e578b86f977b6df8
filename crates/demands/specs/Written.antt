-- Document 02, "Which elements were written" (Q-3): which elements an accepted instruction wrote, "whether or not its contents changed", said from the
-- instruction and the control record that it began with; and what the marks then are. No mark stands in the first part.
use Rattle.std.specs.Prelude.{Bool, false, not, ◌&&◌, ◌||◌, List, ◌≡◌, ℕ, ◌<◌, eqb, ltb, length, get_or}
use Rattle.numbers.specs.Bits.{bit}
use Rattle.numbers.specs.Choice.{pick}
use Rattle.state.specs.declared.Control.{Control}
use Rattle.opcodes.specs.declared.Instruction.{Instruction}
use Rattle.opcodes.specs.Opcodes.{is_memory, writes_mask, in_one_step}
use Rattle.opcodes.specs.Masking.{operated}
use Rattle.machine.specs.Iota.{count_of}
use Rattle.memory.specs.Works.{is_store}

-- element i of Vc
abbrev pub wrote_element : Instruction → Control → ℕ → Bool
wrote_element ins c i =
    -- loads and gathers the operated elements; stores and scatters none
    pick (is_memory ins.work) (not (is_store ins.work) && operated ins c i)
    -- "none for compare"
    (pick (writes_mask ins) false
    -- "the first VCR for IOTA", which is the new count
    (pick (in_one_step ins) (ltb i (count_of ins c))
    -- "operated elements for operate instructions", and so "every element below VLR for merge", which ignores MOE
    (operated ins c i)))

-- element i of register r was written
unfoldable pub wrote : Instruction → Control → ℕ → ℕ → Bool
wrote ins c r i = eqb r ins.vc.0 && wrote_element ins c i

-- the same of a step alone: its own element's, and IOTA's all
unfoldable pub step_wrote : Instruction → ℕ → Control → ℕ → ℕ → Bool
step_wrote ins e c r i = wrote ins c r i && (in_one_step ins || eqb i e)

-- ---- the marks m after an instruction, from those before it
-- the bit of element i of register r
abbrev pub mark_of : List ℕ → ℕ → ℕ → Bool
mark_of m r i = bit (get_or m r 0) i

-- those that were there are kept, and those of the elements that it wrote are added
pub record MarksAfter (ins : Instruction) (c : Control) (before m : List ℕ) : Type 0 where
  pub count : length m ≡ 16
  pub marks : (r i : ℕ) → r < 16 → mark_of m r i ≡ (mark_of before r i || wrote ins c r i)
