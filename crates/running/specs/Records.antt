-- The instruction records that the runner reads after the saved file: opcode (1 byte), 1 zero byte, control word (2), 4 zero bytes, scalar (8), little-endian.
use Rattle.std.specs.Prelude.{Bool, true, ◌&&◌, List, [], ◌∷◌, ◌++◌, ℕ, zero, suc, ◌*◌, ◌/◌, ◌%◌, leb, eqb, length, take, drop, get_or}
use Rattle.numbers.specs.Bytes.{number_of, all_zero}
use Rattle.touch.specs.Parts.{Queue, queue}

-- the 16 bytes of record k
abbrev pub record_at : List ℕ → ℕ → List ℕ
record_at records k = take 16 (drop (k * 16) records)

-- the parts of a record
abbrev pub opcode_in : List ℕ → ℕ
opcode_in part = get_or part 0 0

abbrev pub control_word_in : List ℕ → ℕ
control_word_in part = number_of (take 2 (drop 2 part))

abbrev pub scalar_in : List ℕ → ℕ
scalar_in part = number_of (drop 8 part)

-- its filler bytes are zero
unfoldable pub unfilled : List ℕ → Bool
unfilled part = eqb (get_or part 1 0) 0 && all_zero (take 4 (drop 4 part))

-- those of the first n records
unfoldable pub all_unfilled : ℕ → List ℕ → Bool
all_unfilled zero records = true
all_unfilled (suc n) records = all_unfilled n records && unfilled (record_at records n)

-- at most 16 records, none cut, filler bytes zero
unfoldable pub well_formed : List ℕ → Bool
well_formed records = leb (length records) 256 && (eqb (length records % 16) 0 && all_unfilled (length records / 16) records)

-- the parts of record k
abbrev pub opcode_at : List ℕ → ℕ → ℕ
opcode_at records k = opcode_in (record_at records k)

abbrev pub control_word_at : List ℕ → ℕ → ℕ
control_word_at records k = control_word_in (record_at records k)

abbrev pub scalar_at : List ℕ → ℕ → ℕ
scalar_at records k = scalar_in (record_at records k)

-- f of 0 to n - 1
unfoldable pub each : ℕ → (ℕ → ℕ) → List ℕ
each zero f = []
each (suc n) f = each n f ++ (f n ∷ [])

-- the queue of the first n records
unfoldable pub queue_in : ℕ → List ℕ → Queue
queue_in n records = queue (each n (opcode_at records)) (each n (control_word_at records)) (each n (scalar_at records))
