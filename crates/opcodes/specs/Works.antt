-- The works, and a row for each: everything that the layers above go by, but for what an element receives (element/specs/Receives). Document 01,
-- "Opcodes", "What an element receives", "Memory" and "Queues and orders"; document 02, Q-1, for division. A later operation is one more case of `Work` and
-- of `row_of`.
use Rattle.std.specs.Prelude.{Bool, true, false, not, ℕ}
use Rattle.opcodes.specs.declared.works.Work.{Work}
use Rattle.opcodes.specs.declared.works.Work.TheVariants.{NoWork, AddLongword, SubtractLongword, MultiplyLongword, CompareLongword, BitSet, ExclusiveOr}
use Rattle.opcodes.specs.declared.works.Work.TheVariants.{BitClear, ShiftRight, ShiftLeft, AddF, SubtractF, MultiplyF, CompareF, Convert, Iota, Merge}
use Rattle.opcodes.specs.declared.works.Work.TheVariants.{LoadLongword, LoadQuadword, StoreLongword, StoreQuadword, DivideF}
use Rattle.opcodes.specs.declared.works.Holds.{Holds}
use Rattle.opcodes.specs.declared.works.Holds.TheVariants.{Registers, Relation, RelationAlone, Conversion}

-- in which of its opcode's forms a register is read
pub data When : Type 0 where
  never : When
  in_vector_form : When
  in_scalar_form : When
  always : When

abbrev pub reads : When → Bool → Bool
reads never scalar = false
reads in_vector_form scalar = not scalar
reads in_scalar_form scalar = scalar
reads always scalar = true

-- what a step writes: its element of Vc; its bit of VMR; in one step for all elements, the first VCR elements of Vc and VCR; or bytes of the window
pub data Writes : Type 0 where
  element : Writes
  mask_bit : Writes
  counted_elements : Writes
  bytes : Writes

-- what is moved between Vc and the window: nothing, or elements of so many bytes
pub data Moves : Type 0 where
  nothing : Moves
  loads : ℕ → Moves
  stores : ℕ → Moves

pub record Row : Type 0 where
  pub writes : Writes
  pub va : When
  pub vb : When
  -- with MOE set, only elements whose mask bit is MTF are operated on; a work that does not obey MOE reads the mask bit itself
  pub obeys_moe : Bool
  pub holds : Holds
  pub moves : Moves

-- Va's element, or the scalar, and Vb's give an element of Vc
abbrev pub operate : Row
operate = record { writes = element; va = in_vector_form; vb = always; obeys_moe = true; holds = Registers; moves = nothing }

-- or a mask bit
abbrev pub compare_by : Holds → Row
compare_by h = record { writes = mask_bit; va = in_vector_form; vb = always; obeys_moe = true; holds = h; moves = nothing }

-- loads and gathers, stores and scatters: the scalar form takes offsets from Vb
abbrev pub load_of : ℕ → Row
load_of n = record { writes = element; va = never; vb = in_scalar_form; obeys_moe = true; holds = Registers; moves = loads n }

abbrev pub store_of : ℕ → Row
store_of n = record { writes = bytes; va = never; vb = in_scalar_form; obeys_moe = true; holds = Registers; moves = stores n }

unfoldable pub row_of : Work → Row
row_of NoWork = operate
row_of AddLongword = operate
row_of SubtractLongword = operate
row_of MultiplyLongword = operate
row_of CompareLongword = compare_by Relation
row_of BitSet = operate
row_of ExclusiveOr = operate
row_of BitClear = operate
row_of ShiftRight = operate
row_of ShiftLeft = operate
row_of AddF = operate
row_of SubtractF = operate
row_of MultiplyF = operate
row_of CompareF = compare_by RelationAlone
-- convert reads Vb alone: Va's field is the conversion
row_of Convert = record { writes = element; va = never; vb = always; obeys_moe = true; holds = Conversion; moves = nothing }
-- IOTA reads mask bits and no register
row_of Iota = record { writes = counted_elements; va = never; vb = never; obeys_moe = false; holds = Registers; moves = nothing }
-- merge ignores MOE: the mask bit chooses between Va and Vb
row_of Merge = record { writes = element; va = in_vector_form; vb = always; obeys_moe = false; holds = Registers; moves = nothing }
row_of LoadLongword = load_of 4
row_of LoadQuadword = load_of 8
row_of StoreLongword = store_of 4
row_of StoreQuadword = store_of 8
row_of DivideF = operate

-- ---- read off the row
abbrev pub is_mask_bit : Writes → Bool
is_mask_bit element = false
is_mask_bit mask_bit = true
is_mask_bit counted_elements = false
is_mask_bit bytes = false

abbrev pub is_counted : Writes → Bool
is_counted element = false
is_counted mask_bit = false
is_counted counted_elements = true
is_counted bytes = false

-- a memory work
abbrev pub is_move : Moves → Bool
is_move nothing = false
is_move (loads n) = true
is_move (stores n) = true

abbrev pub is_load : Moves → Bool
is_load nothing = false
is_load (loads n) = true
is_load (stores n) = false

abbrev pub is_store : Moves → Bool
is_store nothing = false
is_store (loads n) = false
is_store (stores n) = true

-- how many bytes an element moves
abbrev pub size_of : Moves → ℕ
size_of nothing = 0
size_of (loads n) = n
size_of (stores n) = n
