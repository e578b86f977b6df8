-- Document 01, "Opcodes" and "Numbers given back": what an opcode and a control word say, for one instruction and for a position of a queue. The order of the
-- numbers is 1, 3, 2 for one instruction, and 1, 7, 2 at a queue position, which 3 comes before. A refused opcode ends the check: only an accepted one has its
-- control word read.
use Rattle.std.specs.Prelude.{Bool, ◌&&◌, ℕ, Option, Some, None, Result, Ok, Err}
use Rattle.numbers.specs.Choice.{pick}
use Rattle.state.specs.declared.answer.Refusal.{Refusal}
use Rattle.state.specs.declared.answer.Refusal.TheVariants.{ReservedOpcode, ReservedControlWord, Disabled, MemoryOpcode}
use Rattle.opcodes.specs.declared.Instruction.{Instruction}
use Rattle.opcodes.specs.Opcodes.{Opcode, opcode_of, is_memory}
use Rattle.opcodes.specs.ControlWord.{control_word_of}

-- an instruction, or why there is none
abbrev pub Decoded : Type 0
Decoded = Result Instruction Refusal

abbrev pub by_control_word : ℕ → Option Instruction → Decoded
by_control_word position None = Err (ReservedControlWord position)
by_control_word position (Some i) = Ok i

abbrev pub by_opcode : Bool → Bool → ℕ → ℕ → Opcode → Decoded
by_opcode enabled queued position c None = Err (ReservedOpcode position)
by_opcode enabled queued position c (Some (w, s)) =
    pick enabled
    (pick (queued && is_memory w) (Err (MemoryOpcode position))
    (by_control_word position (control_word_of w s c)))
    (Err Disabled)

-- at a position (0 for one instruction) of an enabled processor or a disabled one, in a queue or not
unfoldable pub decoded_of : Bool → Bool → ℕ → ℕ → ℕ → Decoded
decoded_of enabled queued position k c = by_opcode enabled queued position c (opcode_of k)
