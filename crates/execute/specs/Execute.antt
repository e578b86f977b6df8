-- One instruction, for any state, marks, opcode, control word, scalar, base, stride, window and origin.
-- Document 01, "Numbers given back": order for one instruction: 12, 1, 3, 2, then for memory 4, 5 or 6.
use Rattle.std.specs.Prelude.{false, List, ℕ, Ok, Err}
use Rattle.numbers.specs.Choice.{pick}
use Rattle.state.specs.declared.answer.Refusal.TheVariants.{OutOfRange}
use Rattle.state.specs.Marks.{Marked}
use Rattle.state.specs.Outcome.{Outcome, outcome, refused_window}
use Rattle.state.specs.State.{in_range, enabled}
use Rattle.opcodes.specs.declared.Instruction.{Instruction}
use Rattle.opcodes.specs.Opcodes.{is_memory}
use Rattle.opcodes.specs.Decoding.{Decoded, decoded_of}
use Rattle.machine.specs.Instruction.{instruction_done}
use Rattle.memory.specs.Move.{moved_of}

-- an instruction that passed the checks
unfoldable pub carried_out : Instruction → Marked → ℕ → ℕ → ℕ → List ℕ → ℕ → Outcome (Marked × List ℕ)
carried_out ins b scalar base stride w origin =
    pick (is_memory ins.work)
    (moved_of b ins base stride w origin)
    (outcome (Ok 0) (instruction_done ins scalar b, w))

abbrev pub as_decoded : Decoded → Marked → ℕ → ℕ → ℕ → List ℕ → ℕ → Outcome (Marked × List ℕ)
as_decoded (Err refusal) b scalar base stride w origin = refused_window (Err refusal) b w
as_decoded (Ok ins) b scalar base stride w origin = carried_out ins b scalar base stride w origin

-- 12 first; decoding gives 1, 3 or 2
unfoldable pub executed_of : Marked → ℕ → ℕ → ℕ → ℕ → ℕ → List ℕ → ℕ → Outcome (Marked × List ℕ)
executed_of b opcode cntrl scalar base stride w origin =
    pick (in_range b.state.control)
    (as_decoded (decoded_of (enabled b.state.control) false 0 opcode cntrl) b scalar base stride w origin)
    (refused_window (Err OutOfRange) b w)
