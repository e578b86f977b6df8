-- The opcode table's rule, proved at all 256 opcodes by one computed test. Assumes nothing.
use mathlib.Core.Path.{◌≡◌, refl, sym, ap, ap₂, subst, ◌∙◌}
use mathlib.Core.Bool.{Bool, not, ◌&&◌, beq}
use mathlib.Core.List.{List, [], ◌∷◌}
use Prim.Native.Nat.{ℕ, zero, suc, ◌<◌}
use lib.Dec.{T, eqb, eqb→eq}
use lib.ListN.{get_or}
use Rattle.std.specs.Prelude.{Some, None}
use Rattle.opcodes.specs.declared.works.Work.{Work}
use Rattle.opcodes.specs.declared.works.Work.TheVariants.{NoWork, AddLongword, SubtractLongword, MultiplyLongword, CompareLongword, BitSet, ExclusiveOr}
use Rattle.opcodes.specs.declared.works.Work.TheVariants.{BitClear, ShiftRight, ShiftLeft, AddF, SubtractF, MultiplyF, CompareF, Convert, Iota, Merge}
use Rattle.opcodes.specs.declared.works.Work.TheVariants.{LoadLongword, LoadQuadword, StoreLongword, StoreQuadword, DivideF}
use Rattle.opcodes.specs.Opcodes.{Opcode, opcode_of}
use Rattle.opcodes.specs.Working.{number, work_of, odd}
use Rattle.opcodes.proofs.Test.{and_left, and_right, same-is, every, at}

-- a work is that of its number
numbered-back : (w : Work) → work_of (number w) ≡ w
unfolding work_of
numbered-back NoWork = refl
numbered-back AddLongword = refl
numbered-back SubtractLongword = refl
numbered-back MultiplyLongword = refl
numbered-back CompareLongword = refl
numbered-back BitSet = refl
numbered-back ExclusiveOr = refl
numbered-back BitClear = refl
numbered-back ShiftRight = refl
numbered-back ShiftLeft = refl
numbered-back AddF = refl
numbered-back SubtractF = refl
numbered-back MultiplyF = refl
numbered-back CompareF = refl
numbered-back Convert = refl
numbered-back Iota = refl
numbered-back Merge = refl
numbered-back LoadLongword = refl
numbered-back LoadQuadword = refl
numbered-back StoreLongword = refl
numbered-back StoreQuadword = refl
numbered-back DivideF = refl

-- the rule at an opcode k that stands for o and has the number n in the table: n is its work's number, which is not 0, and it has the scalar form exactly
-- when odd
abbrev pub ruled : ℕ → ℕ → Opcode → Bool
ruled k n None = eqb n 0
ruled k n (Some (w, s)) = eqb n (number w) && (not (eqb n 0) && beq s (odd k))

unfoldable pub rule : ℕ → ℕ → Bool
rule k n = ruled k n (opcode_of k)

module _ (k n : ℕ) (w : Work) (s : Bool) (t : T (ruled k n (Some (w, s)))) where
  past-number : T (not (eqb n 0) && beq s (odd k))
  past-number = and_right (eqb n (number w)) (not (eqb n 0) && beq s (odd k)) t

  accepted-work : work_of n ≡ w
  accepted-work = ap work_of (eqb→eq n (number w) (and_left (eqb n (number w)) (not (eqb n 0) && beq s (odd k)) t)) ∙ numbered-back w

  accepted-some : T (not (eqb n 0))
  accepted-some = and_left (not (eqb n 0)) (beq s (odd k)) past-number

  accepted-odd : s ≡ odd k
  accepted-odd = same-is s (odd k) (and_right (not (eqb n 0)) (beq s (odd k)) past-number)

ruled-reserved : (k n : ℕ) (o : Opcode) → T (ruled k n o) → n ≡ 0 → None ≡ o
ruled-reserved k n None t e = refl
ruled-reserved k n (Some (w, s)) t e = absurd (subst (λ (m : ℕ). T (not (eqb m 0))) e (accepted-some k n w s t))

ruled-accepted : (k n : ℕ) (o : Opcode) → T (ruled k n o) → (n ≡ 0 → ⊥) → Some (work_of n, odd k) ≡ o
ruled-accepted k n None t f = absurd (f (eqb→eq n 0 t))
ruled-accepted k n (Some (w, s)) t f =
    ap₂ (λ (v : Work) (b : Bool). Some (v, b)) (accepted-work k n w s t) (sym (accepted-odd k n w s t))

-- the number of a work in the constant; 0 where the opcode is reserved
abbrev number_in : Opcode → ℕ
number_in None = 0
number_in (Some (w, s)) = number w

abbrev numbers_from : ℕ → ℕ → List ℕ
numbers_from k zero = []
numbers_from k (suc n) = number_in (opcode_of k) ∷ numbers_from (suc k) n

-- the 256 numbers that the source's constant has to be
unfoldable pub work : List ℕ
work = numbers_from 0 256

-- the test passes at each of them
whole : T (every rule 0 work)
unfolding rule work opcode_of
whole = tt

at-opcode : (k : ℕ) → k < 256 → T (rule k (get_or work k 0))
unfolding work
at-opcode k h = at rule 0 work whole k h

-- what an opcode stands for, by its number in the table
pub looked-up-reserved : (k n : ℕ) → k < 256 → n ≡ get_or work k 0 → n ≡ 0 → None ≡ opcode_of k
unfolding rule
looked-up-reserved k n h e z = ruled-reserved k (get_or work k 0) (opcode_of k) (at-opcode k h) (sym e ∙ z)

pub looked-up-accepted : (k n : ℕ) → k < 256 → n ≡ get_or work k 0 → (n ≡ 0 → ⊥) → Some (work_of n, odd k) ≡ opcode_of k
unfolding rule
looked-up-accepted k n h e f = ap (λ (m : ℕ). Some (work_of m, odd k)) e ∙ ruled-accepted k (get_or work k 0) (opcode_of k) (at-opcode k h) (λ z. f (e ∙ z))
