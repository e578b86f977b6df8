-- The types that an element records are VAER's own bits. Assumes nothing.
use mathlib.Core.Path.{◌≡◌, refl}
use mathlib.Core.Bool.{Bool, true, false, ◌&&◌}
use Prim.Native.Nat.{ℕ}
use lib.IntN.{ℤ}
use lib.Dec.{eqb}
use Rattle.numbers.specs.Choice.{pick}
use Rattle.numbers.specs.Halves.{low}
use Rattle.numbers.specs.Relation.{relation_holds}
use Rattle.numbers.specs.Signed.{low32, overflows}
use Rattle.state.specs.State.{vaer_in_range}
use Rattle.longword.specs.Longword.{sum_of, difference_of, product_of}
use Rattle.floating.specs.Format.{Format, F, is_reserved}
use Rattle.floating.specs.Exact.{value_of, integer, is_less, is_equal}
use Rattle.floating.specs.Round.{near, chopped}
use Rattle.floating.specs.declared.Flagged.{Flagged}
use Rattle.floating.specs.declared.Compared.{Compared}
use Rattle.floating.specs.declared.Delivery.{Delivery}
use Rattle.floating.specs.declared.Delivery.TheVariants.{Word, Overflow, Underflow, Reserved, DivisionByZero, ReservedByZero}
use Rattle.floating.specs.Operations.{answered, sum, difference, product, quotient, compared, to_longword, rounded_longword, truncated_longword, from_longword}
use Rattle.opcodes.specs.declared.works.Work.{Work}
use Rattle.opcodes.specs.declared.works.Work.TheVariants.{NoWork, AddLongword, SubtractLongword, MultiplyLongword, CompareLongword, BitSet, ExclusiveOr, BitClear}
use Rattle.opcodes.specs.declared.works.Work.TheVariants.{ShiftRight, ShiftLeft, AddF, SubtractF, MultiplyF, DivideF, CompareF, Convert, Iota, Merge}
use Rattle.opcodes.specs.declared.works.Work.TheVariants.{LoadLongword, LoadQuadword, StoreLongword, StoreQuadword}
use Rattle.element.specs.Receives.{converted, result_of}

abbrev answer : ℕ → ℕ → Flagged
answer v t = record { value = v; types = t }

abbrev bit_with : Bool → ℕ → Compared
bit_with x t = record { bit = x; types = t }

overflow : (t : Bool) → vaer_in_range (pick t 32 0) ≡ true
overflow true = refl
overflow false = refl

of-outcome : (exc : Bool) (o : Delivery) → vaer_in_range (answered exc o).types ≡ true
of-outcome exc (Word w) = refl
of-outcome exc Overflow = refl
of-outcome true Underflow = refl
of-outcome false Underflow = refl
of-outcome exc Reserved = refl
of-outcome exc DivisionByZero = refl
of-outcome exc ReservedByZero = refl

of-compare : (f : Format) (relation a b : ℕ) → vaer_in_range (compared f relation a b).types ≡ true
of-compare f relation a b =
    let x = value_of f a in let y = value_of f b in
    go (is_reserved f a) (is_reserved f b) (relation_holds relation (is_less x y) (is_equal x y))
  where
    go : (s t x : Bool) → vaer_in_range (pick s (bit_with false 4) (pick t (bit_with false 4) (bit_with x 0))).types ≡ true
    go true t x = refl
    go false true x = refl
    go false false x = refl

of-longword : (f : Format) (made : ℕ → ℕ → ℕ) (exc : Bool) (w : ℕ) → vaer_in_range (to_longword f made exc w).types ≡ true
of-longword f made exc w = go (is_reserved f w) (exc && overflows whole)
  where
    whole : ℤ
    whole = integer (value_of f w).sign (made (value_of f w).num (value_of f w).den)

    go : (r t : Bool) → vaer_in_range (pick r (answer 0 4) (answer (low32 whole) (pick t 32 0))).types ≡ true
    go true t = refl
    go false true = refl
    go false false = refl

of-conversion : (conversion : ℕ) (exc : Bool) (b : ℕ) → vaer_in_range (converted conversion exc b).types ≡ true
of-conversion conversion exc b = go (eqb conversion 5) (eqb conversion 4)
  where
    go : (s t : Bool)
        → vaer_in_range (pick s (rounded_longword F exc (low b))
        (pick t (truncated_longword F exc (low b)) (answered exc (from_longword F (low b))))).types ≡ true
    go true t = of-longword F near exc (low b)
    go false true = of-longword F chopped exc (low b)
    go false false = of-outcome exc (from_longword F (low b))

-- WHAT AN ELEMENT RECORDS, whatever it reads
pub types-in-range : (w : Work) (exc : Bool) (field : ℕ) (m : Bool) (a b c : ℕ) → vaer_in_range (result_of w exc field m a b c).types ≡ true
unfolding result_of
types-in-range NoWork exc field m a b c = refl
types-in-range AddLongword exc field m a b c = overflow (exc && overflows (sum_of a b))
types-in-range SubtractLongword exc field m a b c = overflow (exc && overflows (difference_of a b))
types-in-range MultiplyLongword exc field m a b c = overflow (exc && overflows (product_of a b))
types-in-range CompareLongword exc field m a b c = refl
types-in-range BitSet exc field m a b c = refl
types-in-range ExclusiveOr exc field m a b c = refl
types-in-range BitClear exc field m a b c = refl
types-in-range ShiftRight exc field m a b c = refl
types-in-range ShiftLeft exc field m a b c = refl
types-in-range AddF exc field m a b c = of-outcome exc (sum F (low a) (low b))
types-in-range SubtractF exc field m a b c = of-outcome exc (difference F (low a) (low b))
types-in-range MultiplyF exc field m a b c = of-outcome exc (product F (low a) (low b))
types-in-range CompareF exc field m a b c = of-compare F field (low a) (low b)
types-in-range Convert exc field m a b c = of-conversion field exc b
types-in-range Iota exc field m a b c = refl
types-in-range Merge exc field m a b c = refl
types-in-range LoadLongword exc field m a b c = refl
types-in-range LoadQuadword exc field m a b c = refl
types-in-range StoreLongword exc field m a b c = refl
types-in-range StoreQuadword exc field m a b c = refl
types-in-range DivideF exc field m a b c = of-outcome exc (quotient F (low a) (low b))
