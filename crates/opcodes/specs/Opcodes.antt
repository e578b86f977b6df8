-- Document 01, "Opcodes": the table of accepted opcodes, with division's entry (document 02, Q-1).
use Rattle.std.specs.Prelude.{Bool, true, false, not, ◌||◌, List, [], ◌∷◌, ℕ, Option, Some, None, eqb}
use Rattle.numbers.specs.Choice.{pick}
use Rattle.opcodes.specs.declared.Instruction.{Instruction}
use Rattle.opcodes.specs.declared.works.Work.{Work}
use Rattle.opcodes.specs.declared.works.Work.TheVariants.{AddLongword, SubtractLongword, MultiplyLongword, CompareLongword, BitSet, ExclusiveOr, BitClear}
use Rattle.opcodes.specs.declared.works.Work.TheVariants.{ShiftRight, ShiftLeft, AddF, SubtractF, MultiplyF, CompareF, Convert, Iota, Merge}
use Rattle.opcodes.specs.declared.works.Work.TheVariants.{LoadLongword, LoadQuadword, StoreLongword, StoreQuadword, DivideF}
use Rattle.opcodes.specs.Works.{row_of, reads, is_mask_bit, is_counted, is_move}

-- an entry of the table: a work with its opcodes, vector then scalar, or with the one that it has;
-- for memory, the opcode that takes a stride and then the one that takes offsets
pub data Entry : Type 0 where
  forms : Work → ℕ → ℕ → Entry
  vector : Work → ℕ → Entry
  scalar : Work → ℕ → Entry

abbrev pub table : List Entry
table =
    -- add, subtract, multiply, compare, longword
    forms AddLongword 0x80 0x81
    ∷ forms SubtractLongword 0x88 0x89
    ∷ forms MultiplyLongword 0xA0 0xA1
    ∷ forms CompareLongword 0xC0 0xC1
    -- bit set, exclusive or, bit clear
    ∷ forms BitSet 0xC8 0xC9
    ∷ forms ExclusiveOr 0xE8 0xE9
    ∷ forms BitClear 0xCC 0xCD
    -- shift right, shift left, logical
    ∷ forms ShiftRight 0xE0 0xE1
    ∷ forms ShiftLeft 0xE4 0xE5
    -- add, subtract, multiply, compare, F
    ∷ forms AddF 0x84 0x85
    ∷ forms SubtractF 0x8C 0x8D
    ∷ forms MultiplyF 0xA4 0xA5
    ∷ forms CompareF 0xC4 0xC5
    -- convert; IOTA; merge
    ∷ vector Convert 0xEC
    ∷ scalar Iota 0xED
    ∷ forms Merge 0xEE 0xEF
    -- load L Q; gather L Q
    ∷ forms LoadLongword 0x34 0x35
    ∷ forms LoadQuadword 0x36 0x37
    -- store L Q; scatter L Q
    ∷ forms StoreLongword 0x9C 0x9D
    ∷ forms StoreQuadword 0x9E 0x9F
    -- document 02, Q-1: divide, F
    ∷ forms DivideF 0xAC 0xAD
    ∷ []

-- ---- the first entry that has the opcode says what it stands for: a work, and whether it is the scalar form; one that no entry has is reserved
abbrev pub Opcode : Type 0
Opcode = Option (Work × Bool)

abbrev pub among : ℕ → List Entry → Opcode
among k [] = None
among k (forms w v s ∷ rest) = pick (eqb k v) (Some (w, false)) (pick (eqb k s) (Some (w, true)) (among k rest))
among k (vector w v ∷ rest) = pick (eqb k v) (Some (w, false)) (among k rest)
among k (scalar w s ∷ rest) = pick (eqb k s) (Some (w, true)) (among k rest)

unfoldable pub opcode_of : ℕ → Opcode
opcode_of k = among k table

-- ---- what the row of a work says of it, and of an instruction
-- it moves memory
abbrev pub is_memory : Work → Bool
is_memory w = is_move (row_of w).moves

-- it writes mask bits and no register
abbrev pub writes_mask : Instruction → Bool
writes_mask ins = is_mask_bit (row_of ins.work).writes

-- it is one step for all elements
abbrev pub in_one_step : Instruction → Bool
in_one_step ins = is_counted (row_of ins.work).writes

-- it operates on elements whatever MOE says
abbrev pub ignores_moe : Instruction → Bool
ignores_moe ins = not (row_of ins.work).obeys_moe

abbrev pub reads_va : Instruction → Bool
reads_va ins = reads (row_of ins.work).va ins.scalar

abbrev pub reads_vb : Instruction → Bool
reads_vb ins = reads (row_of ins.work).vb ins.scalar

-- the mask bits
abbrev pub reads_mask : Instruction → Bool
reads_mask ins = ins.moe || ignores_moe ins
