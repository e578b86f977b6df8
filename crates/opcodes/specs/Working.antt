-- What the code asks of an instruction and of a work. No promise of a call cites this; `Work::numbered`'s cites `work_of`.
use Rattle.std.specs.Prelude.{Bool, true, false, not, ◌&&◌, ◌||◌, List, [], ◌∷◌, ℕ, ◌%◌, ◌<◌, eqb}
use Rattle.numbers.specs.Choice.{pick}
use Rattle.numbers.specs.Working.{chosen, OnesBelow}
use Rattle.opcodes.specs.declared.Instruction.{Instruction}
use Rattle.opcodes.specs.declared.works.Work.{Work}
use Rattle.opcodes.specs.declared.works.Work.TheVariants.{NoWork, AddLongword, SubtractLongword, MultiplyLongword, CompareLongword, BitSet, ExclusiveOr}
use Rattle.opcodes.specs.declared.works.Work.TheVariants.{BitClear, ShiftRight, ShiftLeft, AddF, SubtractF, MultiplyF, CompareF, Convert, Iota, Merge}
use Rattle.opcodes.specs.declared.works.Work.TheVariants.{LoadLongword, LoadQuadword, StoreLongword, StoreQuadword, DivideF}
use Rattle.opcodes.specs.Works.{row_of, is_move, is_mask_bit, is_counted}
use Rattle.opcodes.specs.Opcodes.{ignores_moe}

-- ---- a work's number in the code's table of opcodes is its place among the cases
abbrev pub number : Work → ℕ
number NoWork = 0
number AddLongword = 1
number SubtractLongword = 2
number MultiplyLongword = 3
number CompareLongword = 4
number BitSet = 5
number ExclusiveOr = 6
number BitClear = 7
number ShiftRight = 8
number ShiftLeft = 9
number AddF = 10
number SubtractF = 11
number MultiplyF = 12
number CompareF = 13
number Convert = 14
number Iota = 15
number Merge = 16
number LoadLongword = 17
number LoadQuadword = 18
number StoreLongword = 19
number StoreQuadword = 20
number DivideF = 21

-- the work of a number; one past the last is none's
unfoldable pub work_of : ℕ → Work
work_of n =
    pick (eqb n 1) AddLongword
    (pick (eqb n 2) SubtractLongword
    (pick (eqb n 3) MultiplyLongword
    (pick (eqb n 4) CompareLongword
    (pick (eqb n 5) BitSet
    (pick (eqb n 6) ExclusiveOr
    (pick (eqb n 7) BitClear
    (pick (eqb n 8) ShiftRight
    (pick (eqb n 9) ShiftLeft
    (pick (eqb n 10) AddF
    (pick (eqb n 11) SubtractF
    (pick (eqb n 12) MultiplyF
    (pick (eqb n 13) CompareF
    (pick (eqb n 14) Convert
    (pick (eqb n 15) Iota
    (pick (eqb n 16) Merge
    (pick (eqb n 17) LoadLongword
    (pick (eqb n 18) LoadQuadword
    (pick (eqb n 19) StoreLongword
    (pick (eqb n 20) StoreQuadword
    (pick (eqb n 21) DivideF
    NoWork))))))))))))))))))))

-- n is one of a list
abbrev pub named : List ℕ → ℕ → Bool
named [] n = false
named (k ∷ ks) n = eqb n k || named ks n

-- ---- an opcode has it
abbrev pub in_table : Work → Bool
in_table NoWork = false
in_table _ = true

-- it is a register work
abbrev pub is_register_work : Work → Bool
is_register_work w = in_table w && not (is_move (row_of w).moves)

-- of one that writes elements, each by itself
abbrev pub is_lane_work : Work → Bool
is_lane_work w = is_register_work w && (not (is_mask_bit (row_of w).writes) && not (is_counted (row_of w).writes))

-- an instruction's register numbers are below 16
pub record Below (ins : Instruction) : Type 0 where
  pub va : ins.va.0 < 16
  pub vb : ins.vb.0 < 16
  pub vc : ins.vc.0 < 16

-- an accepted opcode takes a scalar, or offsets, exactly when odd
abbrev pub odd : ℕ → Bool
odd k = eqb (k % 2) 1

-- the elements that an instruction operates on, as the ones of a number
abbrev pub OperatedSet : Instruction → ℕ → ℕ → ℕ → Type 0
OperatedSet ins vlr vmr all = OnesBelow vlr (chosen (ins.moe && not (ignores_moe ins)) ins.mtf vmr) all
