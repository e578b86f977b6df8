-- Document 01, "What an element receives", and document 02, Q-1 and Q-2: the work of one element, over what it reads there. a is Va's element or the
-- scalar, b is Vb's, c is Vc's own.
use Rattle.std.specs.Prelude.{Bool, ◌&&◌, ℕ, eqb, ℤ}
use Rattle.numbers.specs.Choice.{pick}
use Rattle.numbers.specs.Halves.{low, with_low}
use Rattle.numbers.specs.Signed.{low32, overflows}
use Rattle.longword.specs.Longword.{sum_of, difference_of, product_of, compares, bit_set_of, exclusive_or_of, bit_clear_of, shifted_right, shifted_left}
use Rattle.floating.specs.Format.{F}
use Rattle.floating.specs.Operations.{answered, sum, difference, product, quotient, compared, rounded_longword, truncated_longword, from_longword}
use Rattle.floating.specs.declared.Flagged.{Flagged}
use Rattle.floating.specs.declared.Compared.{Compared}
use Rattle.opcodes.specs.declared.works.Work.{Work}
use Rattle.opcodes.specs.declared.works.Work.TheVariants.{NoWork, AddLongword, SubtractLongword, MultiplyLongword, CompareLongword, BitSet, ExclusiveOr, BitClear}
use Rattle.opcodes.specs.declared.works.Work.TheVariants.{ShiftRight, ShiftLeft, AddF, SubtractF, MultiplyF, CompareF, Convert, Iota, Merge, LoadLongword, LoadQuadword}
use Rattle.opcodes.specs.declared.works.Work.TheVariants.{StoreLongword, StoreQuadword, DivideF}
use Rattle.element.specs.declared.Out.{Out}

abbrev pub out : ℕ → ℕ → Out
out value types = record { value = value; types = types }

-- nothing is recorded
abbrev pub quiet : ℕ → Out
quiet value = out value 0

-- Longword: the low 32 bits of the true result; overflow (bit 5) is recorded only with EXC. A 32-bit result leaves <63:32> as they were
abbrev pub longword_out : Bool → ℕ → ℤ → Out
longword_out exc c z = out (with_low c (low32 z)) (pick (exc && overflows z) 32 0)

-- F_floating, of <31:0>
abbrev pub floating_out : ℕ → Flagged → Out
floating_out c x = out (with_low c x.value) x.types

-- a mask bit
abbrev pub bit_out : Bool → ℕ → Out
bit_out t types = out (pick t 1 0) types

abbrev pub compared_out : Compared → Out
compared_out x = bit_out x.bit x.types

-- conversions: 5 rounded F to L, 4 truncated F to L, 1 L to F; others are refused before
abbrev pub converted : ℕ → Bool → ℕ → Flagged
converted conversion exc b =
    pick (eqb conversion 5) (rounded_longword F exc (low b))
    (pick (eqb conversion 4) (truncated_longword F exc (low b))
    (answered exc (from_longword F (low b))))

-- what the work leaves and records, where the field is the relation of a compare or the conversion of convert, and matches says that VMR<i> is MTF.
-- IOTA and memory are no work of one element alone.
unfoldable pub result_of : Work → Bool → ℕ → Bool → ℕ → ℕ → ℕ → Out
result_of NoWork exc field matches a b c = quiet c
result_of AddLongword exc field matches a b c = longword_out exc c (sum_of a b)
result_of SubtractLongword exc field matches a b c = longword_out exc c (difference_of a b)
result_of MultiplyLongword exc field matches a b c = longword_out exc c (product_of a b)
result_of CompareLongword exc field matches a b c = bit_out (compares field a b) 0
result_of BitSet exc field matches a b c = quiet (bit_set_of a b)
result_of ExclusiveOr exc field matches a b c = quiet (exclusive_or_of a b)
result_of BitClear exc field matches a b c = quiet (bit_clear_of a b)
result_of ShiftRight exc field matches a b c = quiet (with_low c (shifted_right a b))
result_of ShiftLeft exc field matches a b c = quiet (with_low c (shifted_left a b))
result_of AddF exc field matches a b c = floating_out c (answered exc (sum F (low a) (low b)))
result_of SubtractF exc field matches a b c = floating_out c (answered exc (difference F (low a) (low b)))
result_of MultiplyF exc field matches a b c = floating_out c (answered exc (product F (low a) (low b)))
result_of CompareF exc field matches a b c = compared_out (compared F field (low a) (low b))
result_of Convert exc field matches a b c = floating_out c (converted field exc b)
result_of Iota exc field matches a b c = quiet c
result_of Merge exc field matches a b c = quiet (pick matches a b)
result_of LoadLongword exc field matches a b c = quiet c
result_of LoadQuadword exc field matches a b c = quiet c
result_of StoreLongword exc field matches a b c = quiet c
result_of StoreQuadword exc field matches a b c = quiet c
-- document 02, Q-1: Va, or the scalar, divided by Vb
result_of DivideF exc field matches a b c = floating_out c (answered exc (quotient F (low a) (low b)))
