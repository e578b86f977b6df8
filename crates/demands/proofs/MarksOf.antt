-- What an instruction marks, from any run: the marks that were there and those of the elements that it wrote; and what it did not write it kept. Assumes
-- nothing.
use mathlib.Core.Bool.{Bool, true, false, not, ◌&&◌, ◌||◌}
use mathlib.Core.List.{List}
use mathlib.Core.Path.{◌≡◌, refl, sym, ap, ◌∙◌}
use Prim.Native.Nat.{ℕ, zero, suc, ◌≤◌, ◌<◌}
use native.Mathlib.Omega.{arith}
use lib.Bits.{bit_or, or_zero_r}
use lib.Dec.{eqb, ltb}
use lib.ListN.{length, length-set}
use Rattle.numbers.specs.Bits.{bit}
use Rattle.numbers.specs.Choice.{pick}
use Rattle.numbers.specs.Halves.{low}
use Rattle.numbers.specs.Rising.{rising}
use Rattle.numbers.proofs.Unions.{first-bits, chosen_below}
use Rattle.state.specs.declared.Control.{Control}
use Rattle.state.specs.Elements.{at}
use Rattle.state.specs.Marks.{also_marked, one_element, first_elements}
use Rattle.state.specs.State.{place_of}
use Rattle.state.proofs.Marking.{marks-none, marks-twice, marked-bit}
use Rattle.opcodes.specs.declared.Instruction.{Instruction}
use Rattle.opcodes.specs.Opcodes.{is_memory, writes_mask, in_one_step}
use Rattle.opcodes.specs.Masking.{operated}
use Rattle.opcodes.specs.Working.{Below}
use Rattle.machine.specs.Run.{Run, joined}
use Rattle.machine.specs.Iota.{count_of, iota_step}
use Rattle.machine.specs.Instruction.{step_of, steps_below, whole_of}
use Rattle.machine.proofs.IotaLaws.{matching-le}
use Rattle.machine.proofs.IotaTouches.{Outside, walked-length, walked-outside}
use Rattle.memory.specs.Move.{mark_step}
use Rattle.demands.specs.Written.{wrote_element, wrote, mark_of, MarksAfter}
use Rattle.demands.proofs.Elementwise as elementwise

-- ---- a set of Vc's elements joins the marks
pub joins-marks : (ins : Instruction) (c : Control) (m m' : List ℕ) (which : ℕ) → ins.vc.0 < 16 → length m ≡ 16 → m' ≡ also_marked m ins.vc.0 which
    → ((i : ℕ) → bit which i ≡ wrote_element ins c i) → MarksAfter ins c m m'
unfolding wrote
joins-marks ins c m m' which vc sixteen e is = record {
  count = ap length e ∙ length-set m ins.vc.0 _ ∙ sixteen;
  marks = λ r i a. ap (λ (x : List ℕ). mark_of x r i) e
      ∙ marked-bit m ins.vc.0 which r i (omega arith)
      ∙ ap (λ (t : Bool). mark_of m r i || (eqb r ins.vc.0 && t)) (is i);
}

-- ---- the operated elements, marked one by one
pub marks-come : (vc : ℕ) (on : ℕ → Bool) (n : ℕ) (m : List ℕ) → rising (mark_step vc on) n m ≡ also_marked m vc (chosen_below on n)
unfolding rising mark_step chosen_below
marks-come vc on zero m = sym (marks-none m vc)
marks-come vc on (suc n) m = ap (λ (x : List ℕ). pick (on n) (also_marked x vc (one_element n)) x) (marks-come vc on n m) ∙ by (on n)
  where
    by : (t : Bool) → pick t (also_marked (also_marked m vc (chosen_below on n)) vc (one_element n)) (also_marked m vc (chosen_below on n))
        ≡ also_marked m vc (bit_or (chosen_below on n) (pick t (one_element n) 0))
    by t = grind (arith, marks-twice, or_zero_r)

-- ---- a register instruction, from the run r
-- what it leaves of elements and marks
pub record Wrote (ins : Instruction) (r r' : Run) : Type 0 where
  pub long : length r'.elements ≡ 1024
  pub marks : length r.gathered.marks ≡ 16 → MarksAfter ins r.control r.gathered.marks r'.gathered.marks
  pub kept : (p i : ℕ) → p < 16 → i < 64 → wrote ins r.control p i ≡ false → at r'.elements p i ≡ at r.elements p i

module _ (ins : Instruction) (scalar : ℕ) (r : Run) (fields : Below ins) (register : is_memory ins.work ≡ false)
    (count : length r.elements ≡ 1024) (few : r.control.vlr ≤ 64) where
  -- what it wrote, by the two kinds
  by-elements : in_one_step ins ≡ false → (i : ℕ) → (not (writes_mask ins) && operated ins r.control i) ≡ wrote_element ins r.control i
  by-elements alone i = grind arith

  by_count : in_one_step ins ≡ true → (i : ℕ) → ltb i (count_of ins r.control) ≡ wrote_element ins r.control i
  by_count one i = grind arith

  elementwise-wrote : in_one_step ins ≡ false → Wrote ins r (whole_of ins scalar r)
  unfolding wrote
  elementwise-wrote alone = record {
    long = elementwise.whole_long ins scalar r fields count alone few;
    marks = λ sixteen. joins-marks ins r.control r.gathered.marks _ _ fields.vc sixteen
        (elementwise.whole-marks ins scalar r fields count alone few)
        (λ i. elementwise.marks-added ins scalar r fields count alone few i ∙ by-elements alone i);
    kept = λ p i a b e. elementwise.whole-kept ins scalar r fields count alone few p i a b
        (ap (λ (t : Bool). eqb p ins.vc.0 && t) (by-elements alone i) ∙ e);
  }

  pub is-step : in_one_step ins ≡ true → whole_of ins scalar r ≡ iota_step ins scalar r
  unfolding whole_of steps_below step_of
  is-step one = grind arith

  iota-marks : (iota_step ins scalar r).gathered.marks ≡ also_marked r.gathered.marks ins.vc.0 (first_elements (count_of ins r.control))
  unfolding iota_step joined
  iota-marks = refl

  iota-long : length (iota_step ins scalar r).elements ≡ 1024
  unfolding iota_step
  iota-long = grind (arith, walked-length)

  iota-kept : (p i : ℕ) → p < 16 → i < 64 → (eqb p ins.vc.0 && ltb i (count_of ins r.control)) ≡ false
      → at (iota_step ins scalar r).elements p i ≡ at r.elements p i
  unfolding iota_step
  iota-kept p i a b e =
      walked-outside r.control.vmr ins.mtf (low scalar) ins.vc.0 r.control.vlr (place_of p i) outside r.elements
    where
      outside : Outside ins.vc.0 (count_of ins r.control) (place_of p i)
      outside f h q = grind (arith, matching-le)

  iota-wrote : in_one_step ins ≡ true → Wrote ins r (whole_of ins scalar r)
  unfolding wrote
  iota-wrote one = rw (is-step one) (record {
    long = iota-long;
    marks = λ sixteen. joins-marks ins r.control r.gathered.marks _ _ fields.vc sixteen iota-marks
        (λ i. first-bits (count_of ins r.control) i ∙ by_count one i);
    kept = λ p i a b e. iota-kept p i a b (ap (λ (t : Bool). eqb p ins.vc.0 && t) (by_count one i) ∙ e);
  })

  pub whole-wrote : Wrote ins r (whole_of ins scalar r)
  whole-wrote = grind (arith, iota-wrote, elementwise-wrote)
