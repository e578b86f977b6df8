-- Document 01, "Numbers given back" and "Queues and orders": whether a queue is accepted, and its run straight through.
use Rattle.std.specs.Prelude.{Bool, ◌&&◌, ℕ, zero, suc, leb, eqb, length, Ok, Err}
use Rattle.numbers.specs.Choice.{pick}
use Rattle.state.specs.declared.Control.{Control}
use Rattle.state.specs.declared.answer.Refusal.TheVariants.{Disabled, QueueRefused, OutOfRange}
use Rattle.state.specs.Answer.{Answer, is_done}
use Rattle.state.specs.State.{in_range, enabled}
use Rattle.opcodes.specs.Decoding.{Decoded}
use Rattle.machine.specs.Run.{Run}
use Rattle.machine.specs.Instruction.{whole_of}
use Rattle.touch.specs.Parts.{Queue, size, decoded_in, instruction_at, scalar_at}

-- at most 16, and parts of equal length
abbrev pub well_formed : Queue → Bool
well_formed q = leb (size q) 16 && eqb (length q.control_words) (size q) && eqb (length q.scalars) (size q)

-- what one position gets: 1, 7, 2, or none of these
abbrev pub answer_to : Decoded → Answer
answer_to (Err refusal) = Err refusal
answer_to (Ok i) = Ok 0

unfoldable pub at_position : Queue → ℕ → Answer
at_position q k = answer_to (decoded_in q k)

-- the first refusal among the first n positions, or none
unfoldable pub positions : Queue → ℕ → Answer
positions q zero = Ok 0
positions q (suc n) = pick (is_done (positions q n)) (at_position q n) (positions q n)

-- 12, 8, then 3, then the rest
abbrev pub after_tests : Control → Queue → Answer → Answer
after_tests c q rest = pick (in_range c) (pick (well_formed q) (pick (enabled c) rest (Err Disabled)) (Err QueueRefused)) (Err OutOfRange)

-- 12, 8, then 3, then per position; a queue that gets none of these is accepted
unfoldable pub acceptance : Control → Queue → Answer
acceptance c q = after_tests c q (positions q (size q))

-- straight through: each instruction in queue order is done whole on what the last one left
unfoldable pub straight : Queue → ℕ → Run → Run
straight q zero r = r
straight q (suc n) r = whole_of (instruction_at q n) (scalar_at q n) (straight q n r)
