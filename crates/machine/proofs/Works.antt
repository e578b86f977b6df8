-- Works by cases: what holds of each short work, and which works compare. Assumes nothing.
use mathlib.Core.Path.{◌≡◌, refl}
use mathlib.Core.Bool.{true}
use Rattle.opcodes.specs.declared.works.Work.{Work}
use Rattle.opcodes.specs.declared.works.Work.TheVariants.{NoWork, AddLongword, SubtractLongword, MultiplyLongword, CompareLongword, BitSet, ExclusiveOr}
use Rattle.opcodes.specs.declared.works.Work.TheVariants.{BitClear, ShiftRight, ShiftLeft, AddF, SubtractF, MultiplyF, CompareF, Convert, Iota, Merge}
use Rattle.opcodes.specs.declared.works.Work.TheVariants.{LoadLongword, LoadQuadword, StoreLongword, StoreQuadword, DivideF}
use Rattle.opcodes.specs.Works.{is_mask_bit, row_of}
use Rattle.element.specs.Working.{is_short, is_compare}
use Rattle.element.proofs.Groups.{of-compares}

-- what holds of each short work holds of one that is short
pub of-shorts : (P : Work → Type 0) (w : Work) → is_short w ≡ true
    → P AddLongword → P SubtractLongword → P MultiplyLongword → P BitSet → P ExclusiveOr → P BitClear → P ShiftRight → P ShiftLeft → P Merge → P w
of-shorts P NoWork e a b c d f g h i j = cc
of-shorts P AddLongword e a b c d f g h i j = a
of-shorts P SubtractLongword e a b c d f g h i j = b
of-shorts P MultiplyLongword e a b c d f g h i j = c
of-shorts P CompareLongword e a b c d f g h i j = cc
of-shorts P BitSet e a b c d f g h i j = d
of-shorts P ExclusiveOr e a b c d f g h i j = f
of-shorts P BitClear e a b c d f g h i j = g
of-shorts P ShiftRight e a b c d f g h i j = h
of-shorts P ShiftLeft e a b c d f g h i j = i
of-shorts P AddF e a b c d f g h i j = cc
of-shorts P SubtractF e a b c d f g h i j = cc
of-shorts P MultiplyF e a b c d f g h i j = cc
of-shorts P CompareF e a b c d f g h i j = cc
of-shorts P Convert e a b c d f g h i j = cc
of-shorts P Iota e a b c d f g h i j = cc
of-shorts P Merge e a b c d f g h i j = j
of-shorts P LoadLongword e a b c d f g h i j = cc
of-shorts P LoadQuadword e a b c d f g h i j = cc
of-shorts P StoreLongword e a b c d f g h i j = cc
of-shorts P StoreQuadword e a b c d f g h i j = cc
of-shorts P DivideF e a b c d f g h i j = cc

-- the works that write mask bits are the compares
pub is_compare-of : (w : Work) → is_mask_bit (row_of w).writes ≡ is_compare w
unfolding row_of
is_compare-of NoWork = refl
is_compare-of AddLongword = refl
is_compare-of SubtractLongword = refl
is_compare-of MultiplyLongword = refl
is_compare-of CompareLongword = refl
is_compare-of BitSet = refl
is_compare-of ExclusiveOr = refl
is_compare-of BitClear = refl
is_compare-of ShiftRight = refl
is_compare-of ShiftLeft = refl
is_compare-of AddF = refl
is_compare-of SubtractF = refl
is_compare-of MultiplyF = refl
is_compare-of CompareF = refl
is_compare-of Convert = refl
is_compare-of Iota = refl
is_compare-of Merge = refl
is_compare-of LoadLongword = refl
is_compare-of LoadQuadword = refl
is_compare-of StoreLongword = refl
is_compare-of StoreQuadword = refl
is_compare-of DivideF = refl

-- a compare that is not of longwords is of F
pub compare-left : (w : Work) → is_compare w ≡ true → (w ≡ CompareLongword → ⊥) → w ≡ CompareF
compare-left w e = of-compares (λ v. (v ≡ CompareLongword → ⊥) → v ≡ CompareF) w e (λ h. absurd (h refl)) (λ h. refl)
