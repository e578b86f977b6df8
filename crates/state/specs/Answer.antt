-- Document 01, "Numbers given back": the number of each answer, and what stands beside it.
use Rattle.std.specs.Prelude.{Bool, true, false, ℕ, Result, Ok, Err}
use Rattle.state.specs.declared.answer.Refusal.{Refusal}
use Rattle.state.specs.declared.answer.Refusal.TheVariants.{ReservedOpcode, ReservedControlWord, Disabled, WindowRefused, Misaligned}
use Rattle.state.specs.declared.answer.Refusal.TheVariants.{OutsideWindow, MemoryOpcode, QueueRefused, OrderRefused, BadFile, ValueRefused}
use Rattle.state.specs.declared.answer.Refusal.TheVariants.{OutOfRange, NoSuchField}

-- done, with what was read, 0 where nothing is; or refused
abbrev pub Answer : Type 0
Answer = Result ℕ Refusal

abbrev pub refusal_number : Refusal → ℕ
refusal_number (ReservedOpcode position) = 1
refusal_number (ReservedControlWord position) = 2
refusal_number Disabled = 3
refusal_number WindowRefused = 4
refusal_number (Misaligned element) = 5
refusal_number (OutsideWindow element) = 6
refusal_number (MemoryOpcode position) = 7
refusal_number QueueRefused = 8
refusal_number (OrderRefused position) = 9
refusal_number (BadFile record_number) = 10
refusal_number ValueRefused = 11
refusal_number OutOfRange = 12
refusal_number NoSuchField = 13

abbrev pub refusal_beside : Refusal → ℕ
refusal_beside (ReservedOpcode position) = position
refusal_beside (ReservedControlWord position) = position
refusal_beside Disabled = 0
refusal_beside WindowRefused = 0
refusal_beside (Misaligned element) = element
refusal_beside (OutsideWindow element) = element
refusal_beside (MemoryOpcode position) = position
refusal_beside QueueRefused = 0
refusal_beside (OrderRefused position) = position
refusal_beside (BadFile record_number) = record_number
refusal_beside ValueRefused = 0
refusal_beside OutOfRange = 0
refusal_beside NoSuchField = 0

abbrev pub number_of : Answer → ℕ
number_of (Ok value) = 0
number_of (Err refusal) = refusal_number refusal

abbrev pub beside_of : Answer → ℕ
beside_of (Ok value) = value
beside_of (Err refusal) = refusal_beside refusal

-- as C gets it
abbrev pub numbers : Answer → ℕ × ℕ
numbers a = (number_of a, beside_of a)

-- nothing is refused
abbrev pub is_done : Answer → Bool
is_done (Ok value) = true
is_done (Err refusal) = false

-- what a call answers that gives a value, which is no number for its caller, or a refusal
abbrev pub answered : {A : Type 0} → Result A Refusal → Answer
answered (Ok x) = Ok 0
answered (Err refusal) = Err refusal
