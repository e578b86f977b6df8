-- The works of one element in groups, each done by a function of its own: integer, logical and shift works and merge, which are short; floating sum
-- and difference, which are two functions, one for special operands; floating product and quotient; convert; and compares. No public promise cites
-- this.
use Rattle.std.specs.Prelude.{Bool, true, false}
use Rattle.numbers.specs.Choice.{pick}
use Rattle.opcodes.specs.declared.works.Work.{Work}
use Rattle.opcodes.specs.declared.works.Work.TheVariants.{AddLongword, SubtractLongword, MultiplyLongword, CompareLongword, BitSet, ExclusiveOr, BitClear}
use Rattle.opcodes.specs.declared.works.Work.TheVariants.{ShiftRight, ShiftLeft, AddF, SubtractF, MultiplyF, CompareF, Merge, DivideF}

-- the short works
abbrev pub is_short : Work → Bool
is_short AddLongword = true
is_short SubtractLongword = true
is_short MultiplyLongword = true
is_short BitSet = true
is_short ExclusiveOr = true
is_short BitClear = true
is_short ShiftRight = true
is_short ShiftLeft = true
is_short Merge = true
is_short _ = false

-- the compares
abbrev pub is_compare : Work → Bool
is_compare CompareLongword = true
is_compare CompareF = true
is_compare _ = false

-- the floating difference, or the sum
abbrev pub sum_work : Bool → Work
sum_work minus = pick minus SubtractF AddF

-- the floating quotient, or the product
abbrev pub product_work : Bool → Work
product_work divide = pick divide DivideF MultiplyF
