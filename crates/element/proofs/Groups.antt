-- The works of one element in their groups: sums and differences, and compares. Assumes nothing.
use mathlib.Core.Path.{◌≡◌, refl, ap, ap₂, ◌∙◌}
use mathlib.Core.Bool.{Bool, true, false}
use mathlib.Core.Logic.{◌⊎◌, inl, inr}
use Prim.Native.Nat.{ℕ}
use Rattle.numbers.specs.Choice.{pick}
use Rattle.opcodes.specs.declared.works.Work.{Work}
use Rattle.opcodes.specs.declared.works.Work.TheVariants.{NoWork, AddLongword, SubtractLongword, MultiplyLongword, CompareLongword, BitSet, ExclusiveOr}
use Rattle.opcodes.specs.declared.works.Work.TheVariants.{BitClear, ShiftRight, ShiftLeft, AddF, SubtractF, MultiplyF, CompareF, Convert, Iota, Merge}
use Rattle.opcodes.specs.declared.works.Work.TheVariants.{LoadLongword, LoadQuadword, StoreLongword, StoreQuadword, DivideF}
use Rattle.numbers.specs.Halves.{low}
use Rattle.floating.specs.Format.{F, is_reserved}
use Rattle.floating.specs.Operations.{answered, sum, difference}
use Rattle.floating.specs.declared.Flagged.{Flagged}
use Rattle.floating.specs.declared.Compared.{Compared}
use Rattle.element.specs.Receives.{floating_out, result_of}
use Rattle.element.specs.Working.{sum_work, is_compare}

-- the floating difference, or the sum, of words as they were cut
pub is_sum : (minus exc : Bool) (a b c w v : ℕ) (x : Flagged) → w ≡ low a → v ≡ low b → x ≡ answered exc (pick minus (difference F w v) (sum F w v))
    → floating_out c x ≡ result_of (sum_work minus) exc 0 false a b c
unfolding result_of
is_sum minus exc a b c w v x hw hv hx =
    ap (floating_out c) hx
    ∙ ap₂ (λ (y z : ℕ). floating_out c (answered exc (pick minus (difference F y z) (sum F y z)))) hw hv
    ∙ at minus
  where
    at : (t : Bool) → floating_out c (answered exc (pick t (difference F (low a) (low b)) (sum F (low a) (low b)))) ≡ result_of (sum_work t) exc 0 false a b c
    at true = refl
    at false = refl

-- ---- what holds of each work of a group holds of one that is of it
pub of-compares : (P : Work → Type 0) (w : Work) → is_compare w ≡ true → P CompareLongword → P CompareF → P w
of-compares P NoWork e p q = cc
of-compares P AddLongword e p q = cc
of-compares P SubtractLongword e p q = cc
of-compares P MultiplyLongword e p q = cc
of-compares P CompareLongword e p q = p
of-compares P BitSet e p q = cc
of-compares P ExclusiveOr e p q = cc
of-compares P BitClear e p q = cc
of-compares P ShiftRight e p q = cc
of-compares P ShiftLeft e p q = cc
of-compares P AddF e p q = cc
of-compares P SubtractF e p q = cc
of-compares P MultiplyF e p q = cc
of-compares P CompareF e p q = q
of-compares P Convert e p q = cc
of-compares P Iota e p q = cc
of-compares P Merge e p q = cc
of-compares P LoadLongword e p q = cc
of-compares P LoadQuadword e p q = cc
of-compares P StoreLongword e p q = cc
of-compares P StoreQuadword e p q = cc
of-compares P DivideF e p q = cc

-- a compare records a reserved operand, or nothing
pub compare-types : (w : Work) → is_compare w ≡ true → (relation a b : ℕ)
    → ((result_of w false relation false a b 0).types ≡ 0) ⊎ ((result_of w false relation false a b 0).types ≡ 4)
unfolding result_of
compare-types w e relation a b =
    of-compares (λ (v : Work). let t = (result_of v false relation false a b 0).types in (t ≡ 0) ⊎ (t ≡ 4)) w e (inl refl)
    (reserved (is_reserved F (low a)) (is_reserved F (low b)) _)
  where
    either : Bool → Bool → Bool → Compared
    either s t x = pick s (record { bit = false; types = 4 }) (pick t (record { bit = false; types = 4 }) (record { bit = x; types = 0 }))

    reserved : (s t x : Bool) → ((either s t x).types ≡ 0) ⊎ ((either s t x).types ≡ 4)
    reserved true t x = inr refl
    reserved false true x = inr refl
    reserved false false x = inl refl
