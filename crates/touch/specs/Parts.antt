-- Document 01, "Queues and orders": a queue by its parts, and the instruction at each of its positions.
use Rattle.std.specs.Prelude.{true, false, List, ℕ, length, get_or, Ok, Err}
use Rattle.opcodes.specs.declared.Instruction.{Instruction}
use Rattle.opcodes.specs.declared.works.Work.TheVariants.{AddLongword}
use Rattle.opcodes.specs.ControlWord.{instruction_of}
use Rattle.opcodes.specs.Decoding.{Decoded, decoded_of}

-- the parts of a queue: opcodes, control words, scalars
pub record Queue : Type 0 where
  pub opcodes : List ℕ
  pub control_words : List ℕ
  pub scalars : List ℕ

abbrev pub queue : List ℕ → List ℕ → List ℕ → Queue
queue o c s = record { opcodes = o; control_words = c; scalars = s }

abbrev pub size : Queue → ℕ
size q = length q.opcodes

-- what position k of a queue on an enabled processor says
abbrev pub decoded_in : Queue → ℕ → Decoded
decoded_in q k = decoded_of true true k (get_or q.opcodes k 0) (get_or q.control_words k 0)

-- the instruction that stands for a refused one, which no accepted queue has
abbrev pub placeholder : Instruction
placeholder = instruction_of AddLongword false 0

-- the refusals come at no position of an accepted queue
abbrev pub instruction_or : Instruction → Decoded → Instruction
instruction_or other (Err refusal) = other
instruction_or other (Ok i) = i

-- the instruction at a position
unfoldable pub instruction_at : Queue → ℕ → Instruction
instruction_at q k = instruction_or placeholder (decoded_in q k)

abbrev pub scalar_at : Queue → ℕ → ℕ
scalar_at q k = get_or q.scalars k 0
