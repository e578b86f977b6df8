-- What the code of the two calls computes with: a decoded queue, its steps and its run (proofs/Through.antt, Calls.antt), and its acceptance
-- (proofs/Accepting.antt). No promise of a call cites it.
use Rattle.std.specs.Prelude.{◌≡◌, true, false, List, ℕ, ◌<◌, ⊤, get_or, Result, Ok, Err}
use Rattle.numbers.specs.Rising.{rising}
use Rattle.state.specs.declared.Control.{Control}
use Rattle.state.specs.declared.answer.Refusal.{Refusal}
use Rattle.state.specs.Answer.{Answer, answered as answered_by}
use Rattle.opcodes.specs.declared.Instruction.{Instruction}
use Rattle.opcodes.specs.declared.works.Work.TheVariants.{NoWork}
use Rattle.opcodes.specs.ControlWord.{instruction_of}
use Rattle.opcodes.specs.Working.{Below, is_register_work}
use Rattle.machine.specs.Run.{Run}
use Rattle.machine.specs.Instruction.{step_of, whole_of}
use Rattle.order.specs.Steps.{position, element}
use Rattle.touch.specs.Parts.{Queue, size, instruction_at}
use Rattle.queue.specs.Queue.{after_tests, acceptance}

-- the machine runs it: its registers' numbers are below 16, and its work is a register work
pub record Runs (ins : Instruction) : Type 0 where
  pub below : Below ins
  pub work : is_register_work ins.work ≡ true

-- what a list of instructions has past its end
abbrev pub blank : Instruction
blank = instruction_of NoWork false 0

-- the instruction at a position of a decoded queue
abbrev pub decoded_at : List Instruction → ℕ → Instruction
decoded_at program k = get_or program k blank

-- ---- what a step of a decoded queue does
unfoldable pub act_by : List Instruction → List ℕ → ℕ → Run → Run
act_by program scalars x r = step_of (decoded_at program (position x)) (get_or scalars (position x) 0) (element x) r

-- and its run straight through
abbrev pub through_by : List Instruction → List ℕ → ℕ → Run → Run
through_by program scalars n r = rising (λ (k : ℕ) (x : Run). whole_of (decoded_at program k) (get_or scalars k 0) x) n r

-- ---- the tests before the positions of a queue: 12, 8, then 3
unfoldable pub standing : Control → Queue → Answer
standing c q = after_tests c q (Ok 0)

-- the instructions that lie in lent room, where nothing is refused
abbrev pub holding : Result ⊤ Refusal → List Instruction → Result (List Instruction) Refusal
holding (Ok _) program = Ok program
holding (Err refusal) program = Err refusal

-- what a queue gets, and its decoded form where it is accepted
abbrev pub DecodedAs : Queue → Result (List Instruction) Refusal → Type 0
DecodedAs q (Ok program) = (k : ℕ) → k < size q → decoded_at program k ≡ instruction_at q k
DecodedAs q (Err refusal) = ⊤

pub record Accepts (c : Control) (q : Queue) (r : Result (List Instruction) Refusal) : Type 0 where
  pub answered : answered_by r ≡ acceptance c q
  pub decoded : DecodedAs q r
