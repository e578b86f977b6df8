-- What a register instruction that works element by element leaves, from its entry state: by induction over its steps, each of which reads and writes its
-- own element alone. Assumes nothing.
use mathlib.Core.Bool.{Bool, beq, true, false, not, ◌&&◌}
use mathlib.Core.Path.{◌≡◌, refl, sym, ap, ap₂, ◌∙◌}
use Prim.Native.Nat.{ℕ, zero, suc, ◌%◌, ◌≤◌, ◌<◌}
use native.Mathlib.Omega.{arith}
use lib.Bits.{bit_or, or_zero_l, or_zero_r}
use lib.Dec.{eqb}
use lib.ListN.{length, length-set, set}
use Rattle.numbers.specs.Bits.{bit, with_bit}
use Rattle.numbers.specs.Choice.{pick}
use Rattle.numbers.proofs.BitLaws.{bit-replaced, bit_kept, dec_eq}
use Rattle.numbers.proofs.Tests.{pick-false}
use Rattle.numbers.proofs.Unions.{chosen_below, chosen-bits}
use Rattle.state.specs.Marks.{Marked, also_marked, one_element}
use Rattle.state.specs.State.{State, state, place_of, with_vmr, vpsr_in_range}
use Rattle.state.specs.Elements.{at}
use Rattle.opcodes.specs.declared.Instruction.{Instruction}
use Rattle.opcodes.specs.Opcodes.{writes_mask, ignores_moe, reads_va, reads_vb, in_one_step}
use Rattle.opcodes.specs.ControlWord.{field_of}
use Rattle.opcodes.specs.Masking.{operated}
use Rattle.opcodes.specs.Working.{Below}
use Rattle.element.specs.declared.Out.{Out}
use Rattle.element.specs.Receives.{result_of}
use Rattle.machine.specs.Run.{Gathered, Added, Run, run, added, joined, begun, finished}
use Rattle.machine.specs.Step.{received, register_bit, notes, written, wrote_at, worked, element_step}
use Rattle.machine.specs.Instruction.{step_of, steps_below, whole_of, instruction_done}
use Rattle.machine.proofs.Gather.{joined-nothing, joined-twice}
use Rattle.demands.proofs.Ending.{RunEnd, ends-run, halts}
use Rattle.demands.proofs.Placing.{places-next}
use Rattle.demands.proofs.Coming.{come, come-first, come-before, come-now, come-same}
use Rattle.demands.specs.Two.{receives, recorded_below, recorded_by, ElementByElement}

-- what a work makes of the mask bit and the elements that it is handed
abbrev made : Instruction → ℕ → Bool → ℕ → ℕ → ℕ → Out
made ins scalar b x y z =
    result_of ins.work ins.exc (field_of ins) (pick (ignores_moe ins) (beq b ins.mtf) false)
    (pick ins.scalar scalar (pick (reads_va ins) x 0))
    (pick (reads_vb ins) y 0)
    (pick (writes_mask ins) 0 z)

made-same : (ins : Instruction) (scalar : ℕ) {b b' : Bool} {x x' y y' z z' : ℕ} → b ≡ b' → x ≡ x' → y ≡ y' → z ≡ z'
    → made ins scalar b x y z ≡ made ins scalar b' x' y' z'
made-same ins scalar d e f g = cc

module _ (ins : Instruction) (scalar : ℕ) (first : Run) (fields : Below ins) where
  -- the state that it begins with
  abbrev s : State
  s = state first.elements first.control

  abbrev on : ℕ → Bool
  on i = operated ins s.control i

  abbrev value : ℕ → ℕ
  value i = (receives ins scalar s i).value

  -- element i of register p is written by the steps below n
  abbrev wrote : ℕ → ℕ → ℕ → Bool
  wrote n p i = not (writes_mask ins) && eqb p ins.vc.0 && come on n i

  unwritten : (n p i : ℕ) → come on n i ≡ false → wrote n p i ≡ false
  unwritten n p i e = grind arith

  unmarked : (n i : ℕ) → come on n i ≡ false → (writes_mask ins && come on n i) ≡ false
  unmarked n i e = grind arith

  -- the elements of Vc that are written, and the set of those that the steps below n write
  abbrev written_on : ℕ → Bool
  written_on i = not (writes_mask ins) && on i

  abbrev marked_below : ℕ → ℕ
  marked_below n = chosen_below written_on n

  -- what a step that is operated on marks
  marks-one : (n : ℕ) → on n ≡ true → pick (written_on n) (one_element n) 0 ≡ wrote_at ins n
  marks-one n e = grind arith

  marks-no : (n : ℕ) → on n ≡ false → written_on n ≡ false
  marks-no n e = grind arith

  -- after the steps below n
  record Upto (n : ℕ) (r : Run) : Type 0 where
    long : length r.elements ≡ 1024
    elements : (p i : ℕ) → p < 16 → i < 64 → at r.elements p i ≡ pick (wrote n p i) (value i) (at s.elements p i)
    mask : (i : ℕ) → bit r.control.vmr i ≡ pick (writes_mask ins && come on n i) (eqb (value i % 2) 1) (bit s.control.vmr i)
    vlr : r.control.vlr ≡ s.control.vlr
    vcr : r.control.vcr ≡ s.control.vcr
    vaer : r.control.vaer ≡ s.control.vaer
    vpsr : r.control.vpsr ≡ s.control.vpsr
    gathered : r.gathered ≡ joined first.gathered (added (recorded_below n ins scalar s) ins.vc.0 (marked_below n))

  -- ---- one step more
  module _ (n : ℕ) (small : n < 64) (r : Run) (u : Upto n r) where
    own-element : (p : ℕ) → p < 16 → at r.elements p n ≡ at s.elements p n
    own-element p h = grind arith

    own-bit : bit r.control.vmr n ≡ bit s.control.vmr n
    own-bit = grind arith

    same-on : operated ins r.control n ≡ on n
    unfolding operated
    same-on = grind arith

    same_received : received ins scalar n r ≡ receives ins scalar s n
    unfolding received
    same_received = grind (arith, made-same, own-bit, own-element)

    -- it is not operated on
    idle : on n ≡ false → Upto (suc n) r
    unfolding recorded_below chosen_below
    idle e = record {
      long = u.long;
      elements = λ p i a b. u.elements p i a b
          ∙ ap (λ (t : Bool). pick (not (writes_mask ins) && eqb p ins.vc.0 && t) (value i) (at s.elements p i)) (sym (come-same on n i e));
      mask = λ i. u.mask i ∙ ap (λ (t : Bool). pick (writes_mask ins && t) (eqb (value i % 2) 1) (bit s.control.vmr i)) (sym (come-same on n i e));
      vlr = u.vlr;
      vcr = u.vcr;
      vaer = u.vaer;
      vpsr = u.vpsr;
      gathered = u.gathered
          ∙ sym (ap₂ (λ (x y : ℕ). joined first.gathered (added x ins.vc.0 y))
          (ap (bit_or (recorded_below n ins scalar s)) (pick-false (on n) _ 0 e) ∙ or_zero_r (recorded_below n ins scalar s))
          (ap (bit_or (marked_below n)) (pick-false (written_on n) _ 0 (marks-no n e)) ∙ or_zero_r (marked_below n)));
    }

    -- it is
    module _ (e : on n ≡ true) where
      -- what its element records
      abbrev adds : ℕ
      adds = notes (register_bit (writes_mask ins) ins.vc.0) (receives ins scalar s n).types

      abbrev joining : Added
      joining = added adds ins.vc.0 (wrote_at ins n)

      joins : joined r.gathered joining ≡ joined first.gathered (added (recorded_below (suc n) ins scalar s) ins.vc.0 (marked_below (suc n)))
      unfolding recorded_below chosen_below
      joins = grind (arith, joined-twice, marks-one)

      masks : writes_mask ins ≡ true
          → Upto (suc n) (run r.elements (with_vmr r.control (with_bit r.control.vmr n (value n % 2))) (joined r.gathered joining))
      masks m = record {
        long = u.long;
        elements = λ p i a b. u.elements p i a b ∙ none n p i ∙ sym (none (suc n) p i);
        mask = λ i. at-bit i (dec_eq i n);
        vlr = u.vlr;
        vcr = u.vcr;
        vaer = u.vaer;
        vpsr = u.vpsr;
        gathered = joins;
      }
        where
          none : (k p i : ℕ) → pick (wrote k p i) (value i) (at s.elements p i) ≡ at s.elements p i
          none k p i = rw m refl

          at-bit : (i : ℕ) → Dec (i ≡ n)
              → bit (with_bit r.control.vmr n (value n % 2)) i
              ≡ pick (writes_mask ins && come on (suc n) i) (eqb (value i % 2) 1) (bit s.control.vmr i)
          at-bit i x = grind (arith, bit-replaced, come-now, bit_kept, come-before)

      stores : writes_mask ins ≡ false
          → Upto (suc n) (run (set r.elements (place_of ins.vc.0 n) (value n)) r.control (joined r.gathered joining))
      stores m = record {
        long = length-set r.elements (place_of ins.vc.0 n) (value n) ∙ u.long;
        elements = λ p i a b.
            places-next ins.vc.0 fields.vc on (λ _ i. value i) (at s.elements) n small r.elements u.long
            (λ p i a b. u.elements p i a b ∙ in-register n p i) e p i a b
            ∙ sym (in-register (suc n) p i);
        mask = λ i. u.mask i ∙ none n i ∙ sym (none (suc n) i);
        vlr = u.vlr;
        vcr = u.vcr;
        vaer = u.vaer;
        vpsr = u.vpsr;
        gathered = joins;
      }
        where
          none : (k i : ℕ) → pick (writes_mask ins && come on k i) (eqb (value i % 2) 1) (bit s.control.vmr i) ≡ bit s.control.vmr i
          none k i = rw m refl

          in-register : (k p i : ℕ) → pick (wrote k p i) (value i) (at s.elements p i)
              ≡ pick (eqb p ins.vc.0 && come on k i) (value i) (at s.elements p i)
          in-register k p i = grind arith

      works : Upto (suc n) (worked ins scalar n r)
      unfolding worked written
      works = grind (arith, same_received, masks, stores)

    stepped : Upto (suc n) (element_step ins scalar n r)
    unfolding element_step
    stepped = grind (arith, same-on, works, idle)

  -- ---- all of them
  module _ (count : length s.elements ≡ 1024) (alone : in_one_step ins ≡ false) where
    started : Upto 0 first
    unfolding recorded_below chosen_below
    started = record {
      long = count;
      elements = λ p i a b. sym (pick-false (wrote 0 p i) _ _ (unwritten 0 p i (come-first on i)));
      mask = λ i. sym (pick-false (writes_mask ins && come on 0 i) _ _ (unmarked 0 i (come-first on i)));
      vlr = refl;
      vcr = refl;
      vaer = refl;
      vpsr = refl;
      gathered = sym (joined-nothing first.gathered ins.vc.0);
    }

    upto : (n : ℕ) → n ≤ 64 → Upto n (steps_below n ins scalar first)
    unfolding steps_below step_of
    upto zero h = started
    upto (suc n) h = rw alone (stepped n (omega arith) (steps_below n ins scalar first) (upto n (omega arith)))

    -- all of the instruction
    module _ (few : s.control.vlr ≤ 64) where
      abbrev last : Run
      last = steps_below s.control.vlr ins scalar first

      all : Upto s.control.vlr last
      all = upto s.control.vlr few

      every : (i : ℕ) → come on s.control.vlr i ≡ on i
      unfolding operated
      every i = grind arith

      is_last : whole_of ins scalar first ≡ last
      unfolding whole_of
      is_last = rw alone

      -- its marks: of Vc those of the operated elements, unless it writes mask bits
      pub marks-added : (i : ℕ) → bit (chosen_below written_on s.control.vlr) i ≡ written_on i
      unfolding operated
      marks-added i = grind (arith, chosen-bits)

      -- and the elements that it does not write are as they were
      pub whole-kept : (p i : ℕ) → p < 16 → i < 64 → (eqb p ins.vc.0 && written_on i) ≡ false
          → at (whole_of ins scalar first).elements p i ≡ at first.elements p i
      whole-kept p i a b e =
          ap (λ (r : Run). at r.elements p i) is_last
          ∙ all.elements p i a b
          ∙ pick-false (wrote s.control.vlr p i) _ _
          (ap (λ (t : Bool). not (writes_mask ins) && eqb p ins.vc.0 && t) (every i) ∙ turned (not (writes_mask ins)) (eqb p ins.vc.0) (on i) ∙ e)
        where
          turned : (x y z : Bool) → (x && y && z) ≡ (y && (x && z))
          turned x y z = grind arith

      pub whole_long : length (whole_of ins scalar first).elements ≡ 1024
      whole_long = ap (λ (r : Run). length r.elements) is_last ∙ all.long

      pub whole-marks : (whole_of ins scalar first).gathered.marks ≡ also_marked first.gathered.marks ins.vc.0 (chosen_below written_on s.control.vlr)
      unfolding joined
      whole-marks = ap (λ (r : Run). r.gathered.marks) is_last ∙ ap (λ (g : Gathered). g.marks) all.gathered

-- ---- an instruction by itself
module _ (ins : Instruction) (scalar : ℕ) (b : Marked) (fields : Below ins) (count : length b.state.elements ≡ 1024) (alone : in_one_step ins ≡ false)
    (few : b.state.control.vlr ≤ 64) (ranged : vpsr_in_range b.state.control.vpsr ≡ true) where
  abbrev end-run : Run
  end-run = last ins scalar (begun b) fields count alone few

  reached : Upto ins scalar (begun b) fields b.state.control.vlr end-run
  reached = all ins scalar (begun b) fields count alone few

  notes-are : end-run.gathered.vaer ≡ recorded_by ins scalar b.state
  unfolding joined
  notes-are = ap (λ (g : Gathered). g.vaer) reached.gathered ∙ or_zero_l (recorded_by ins scalar b.state)

  recorded-is : end-run.gathered.recorded ≡ not (eqb (recorded_by ins scalar b.state) 0)
  unfolding joined
  recorded-is = ap (λ (g : Gathered). g.recorded) reached.gathered

  ends : ElementByElement ins scalar b.state (finished end-run).state
  ends = record {
    count = reached.long;
    elements = λ r i a c. reached.elements r i a c
        ∙ ap (λ (t : Bool). pick (not (writes_mask ins) && eqb r ins.vc.0 && t) (receives ins scalar b.state i).value (at b.state.elements r i))
        (every ins scalar (begun b) fields count alone few i);
    mask = λ i. ap (λ (v : ℕ). bit v i) end.vmr ∙ reached.mask i
        ∙ ap (λ (t : Bool). pick (writes_mask ins && t) (eqb ((receives ins scalar b.state i).value % 2) 1) (bit b.state.control.vmr i))
        (every ins scalar (begun b) fields count alone few i);
    vlr = end.vlr ∙ reached.vlr;
    vcr = end.vcr ∙ reached.vcr;
    vaer = end.vaer ∙ ap₂ bit_or reached.vaer notes-are;
    vpsr = end.vpsr ∙ ap₂ (λ (t : Bool) (v : ℕ). pick t (with_bit (with_bit v 0 0) 7 1) v) recorded-is reached.vpsr
        ∙ halts b.state.control.vpsr ranged (eqb (recorded_by ins scalar b.state) 0);
  }
    where
      end : RunEnd end-run
      end = ends-run end-run

  pub leaves : ElementByElement ins scalar b.state (instruction_done ins scalar b).state
  unfolding instruction_done
  leaves = grind (arith, is_last, ends)
