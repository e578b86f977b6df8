-- What a step, a queue run straight through and a list of its steps mark and keep, from any run. Assumes nothing.
use mathlib.Core.Bool.{Bool, true, false, ◌&&◌, ◌||◌, or-false}
use mathlib.Core.List.{List, [], ◌∷◌}
use mathlib.Core.Logic.{◌⊎◌, ◌↔◌, inl, inr}
use mathlib.Core.Path.{◌≡◌, refl, sym, ap, ◌∙◌}
use Prim.Native.Nat.{ℕ, zero, suc, ◌%◌, ◌≤◌, ◌<◌}
use native.Mathlib.Omega.{arith}
use lib.Dec.{eqb}
use lib.ListN.{length, length-set, get_or, set, take}
use lib.Seq.{get_or-set_other}
use Rattle.numbers.specs.Bits.{bit, with_bit}
use Rattle.numbers.specs.Choice.{pick}
use Rattle.numbers.proofs.Sets.{bit-none}
use Rattle.numbers.proofs.Unions.{bit-one}
use Rattle.state.specs.Elements.{at}
use Rattle.state.specs.Marks.{also_marked}
use Rattle.state.specs.State.{place_of, with_vmr}
use Rattle.state.proofs.Marking.{marked-bit}
use Rattle.opcodes.specs.declared.Instruction.{Instruction}
use Rattle.opcodes.specs.Opcodes.{is_memory, writes_mask, in_one_step}
use Rattle.opcodes.specs.Masking.{operated}
use Rattle.opcodes.specs.Working.{Below}
use Rattle.opcodes.proofs.Passed.{no-memory}
use Rattle.machine.specs.Run.{Run, run, joined}
use Rattle.machine.specs.Step.{received, written, wrote_at, worked, element_step}
use Rattle.machine.specs.Iota.{iota_step}
use Rattle.machine.specs.Instruction.{step_of, whole_of}
use Rattle.order.specs.Order.{run as walk}
use Rattle.order.specs.Steps.{position, element}
use Rattle.touch.specs.Parts.{Queue, instruction_at, scalar_at}
use Rattle.touch.specs.Touch.{act}
use Rattle.touch.proofs.Steps.{at-below}
use Rattle.queue.specs.Queue.{straight}
use Rattle.queue.proofs.Through.{at-runs, whole-short}
use Rattle.demands.specs.Written.{wrote, step_wrote, mark_of}
use Rattle.demands.proofs.MarksOf.{Wrote, whole-wrote, is-step}

pub or_split : (a b : Bool) → (a || b) ≡ true → (a ≡ true) ⊎ (b ≡ true)
or_split a b e = grind arith

pub or-one : (a b : Bool) → (a ≡ true) ⊎ (b ≡ true) → (a || b) ≡ true
or-one a b x = grind arith

-- a run over 1,024 elements and sixteen marks, at a VLR of at most 64
pub record Fit (r : Run) : Type 0 where
  pub long : length r.elements ≡ 1024
  pub few : r.control.vlr ≤ 64
  pub sixteen : length r.gathered.marks ≡ 16

-- ---- one step
-- what it leaves: the marks that were there and those of the set that `writes` tells
pub record Stepped (writes : ℕ → ℕ → Bool) (r r' : Run) : Type 0 where
  pub fit : Fit r'
  pub marks : (p i : ℕ) → p < 16 → mark_of r'.gathered.marks p i ≡ (mark_of r.gathered.marks p i || writes p i)
  pub kept : (p i : ℕ) → p < 16 → i < 64 → writes p i ≡ false → at r'.elements p i ≡ at r.elements p i

module _ (ins : Instruction) (scalar : ℕ) (r : Run) (fields : Below ins) (register : is_memory ins.work ≡ false) (f : Fit r) where
  pub whole-steps : Stepped (wrote ins r.control) r (whole_of ins scalar r)
  whole-steps =
      let w : Wrote ins r (whole_of ins scalar r) = whole-wrote ins scalar r fields register f.long f.few in
      record {
        fit = record { long = w.long; few = whole-short ins scalar r _ f.few refl; sixteen = (w.marks f.sixteen).count };
        marks = (w.marks f.sixteen).marks;
        kept = w.kept;
      }

  module _ (e : ℕ) (small : e < 64) where
    abbrev writes : ℕ → ℕ → Bool
    writes = step_wrote ins e r.control

    -- an element's
    module _ (alone : in_one_step ins ≡ false) where
      -- what the step of element e writes of Vc
      only : (p i : ℕ) → writes p i ≡ (eqb p ins.vc.0 && (pick (writes_mask ins) false (operated ins r.control e) && eqb i e))
      unfolding step_wrote wrote
      only p i = grind arith

      idle : operated ins r.control e ≡ false → Stepped writes r r
      idle off = record {
        fit = f;
        marks = λ p i a. sym (ap (λ (t : Bool). mark_of r.gathered.marks p i || t) (nothing p i) ∙ or-false (mark_of r.gathered.marks p i));
        kept = λ p i a b n. refl;
      }
        where
          nothing : (p i : ℕ) → writes p i ≡ false
          nothing p i = grind (arith, only)

      -- the element is operated on
      module _ (on : operated ins r.control e ≡ true) where
        abbrev value : ℕ
        value = (received ins scalar e r).value

        abbrev left : Bool → Run
        left m =
            pick m
            (run r.elements (with_vmr r.control (with_bit r.control.vmr e (value % 2))) r.gathered)
            (run (set r.elements (place_of ins.vc.0 e) value) r.control r.gathered)

        worked-marks : (worked ins scalar e r).gathered.marks ≡ also_marked r.gathered.marks ins.vc.0 (wrote_at ins e)
        unfolding worked written joined
        worked-marks = grind arith

        worked-elements : (worked ins scalar e r).elements ≡ (left (writes_mask ins)).elements
        unfolding worked written
        worked-elements = refl

        worked-vlr : (worked ins scalar e r).control.vlr ≡ r.control.vlr
        unfolding worked written
        worked-vlr = grind arith

        marks-bit : (i : ℕ) → bit (wrote_at ins e) i ≡ (pick (writes_mask ins) false true && eqb i e)
        marks-bit i = grind (arith, bit-none, bit-one)

        writes-on : (p i : ℕ) → writes p i ≡ (eqb p ins.vc.0 && (pick (writes_mask ins) false true && eqb i e))
        writes-on p i = grind (arith, only)

        works : Stepped writes r (worked ins scalar e r)
        works = record {
          fit = record {
            long = ap length worked-elements ∙ long (writes_mask ins);
            few = rw worked-vlr f.few;
            sixteen = ap length worked-marks ∙ length-set r.gathered.marks ins.vc.0 _ ∙ f.sixteen;
          };
          marks = λ p i a. ap (λ (m : List ℕ). mark_of m p i) worked-marks
              ∙ marked-bit r.gathered.marks ins.vc.0 (wrote_at ins e) p i (let v = fields.vc in let n = f.sixteen in omega arith)
              ∙ ap (λ (t : Bool). mark_of r.gathered.marks p i || (eqb p ins.vc.0 && t)) (marks-bit i)
              ∙ ap (λ (t : Bool). mark_of r.gathered.marks p i || t) (sym (writes-on p i));
          kept = λ p i a b n. ap (λ (l : List ℕ). at l p i) worked-elements ∙ same p i a b (writes_mask ins) (sym (writes-on p i) ∙ n);
        }
          where
            long : (m : Bool) → length (left m).elements ≡ 1024
            long m = grind (arith, length-set)

            same : (p i : ℕ) → p < 16 → i < 64 → (m : Bool) → (eqb p ins.vc.0 && (pick m false true && eqb i e)) ≡ false
                → at (left m).elements p i ≡ at r.elements p i
            same p i a b m n = grind (arith, get_or-set_other)

      element-steps : Stepped writes r (step_of ins scalar e r)
      unfolding step_of element_step
      element-steps = grind (arith, works, idle)

    -- IOTA's
    iota-steps : in_one_step ins ≡ true → Stepped writes r (step_of ins scalar e r)
    unfolding step_of step_wrote
    iota-steps one =
        let w = whole-steps in
        let same : whole_of ins scalar r ≡ iota_step ins scalar r = is-step ins scalar r fields register f.long f.few one in
        let all : (p i : ℕ) → wrote ins r.control p i ≡ writes p i =
        λ p i. whole (wrote ins r.control p i) ∙ ap (λ (t : Bool). wrote ins r.control p i && (t || eqb i e)) (sym one) in
        rw (one, ← same) (record {
          fit = w.fit;
          marks = λ p i a. w.marks p i a ∙ ap (λ (t : Bool). mark_of r.gathered.marks p i || t) (all p i);
          kept = λ p i a b n. w.kept p i a b (all p i ∙ n);
        })
      where
        whole : (t : Bool) → t ≡ (t && true)
        whole t = grind arith

    pub step-steps : Stepped writes r (step_of ins scalar e r)
    step-steps = grind (arith, iota-steps, element-steps)

-- ---- some instructions or steps
-- what they leave: `Writes` tells which elements they wrote
pub record Left (Writes : ℕ → ℕ → Type 0) (r r' : Run) : Type 0 where
  pub fit : Fit r'
  pub marks : (p i : ℕ) → p < 16 → (mark_of r'.gathered.marks p i ≡ true) ↔ ((mark_of r.gathered.marks p i ≡ true) ⊎ Writes p i)
  pub kept : (p i : ℕ) → p < 16 → i < 64 → (Writes p i → ⊥) → at r'.elements p i ≡ at r.elements p i

-- ---- a queue, from the run r
module _ (q : Queue) where
  register-at : (k : ℕ) → is_memory (instruction_at q k).work ≡ false
  register-at k = no-memory (instruction_at q k) (at-runs q k).work

  abbrev pub StraightWrote : Run → ℕ → ℕ → ℕ → Type 0
  StraightWrote r n p i = (k : ℕ) × (k < n) × (wrote (instruction_at q k) (straight q k r).control p i ≡ true)

  module _ (r : Run) (f : Fit r) where
    -- one instruction more
    module _ (n : ℕ) (l : Left (StraightWrote r n) r (straight q n r)) where
      abbrev here : Run
      here = straight q n r

      next : Stepped (wrote (instruction_at q n) here.control) here (whole_of (instruction_at q n) (scalar_at q n) here)
      next = whole-steps (instruction_at q n) (scalar_at q n) here (at-below q n) (register-at n) l.fit

      older : (p i : ℕ) → StraightWrote r n p i → StraightWrote r (suc n) p i
      older p i w = grind arith

      more : (p i : ℕ) → p < 16
          → (mark_of (straight q (suc n) r).gathered.marks p i ≡ true) ↔ ((mark_of r.gathered.marks p i ≡ true) ⊎ StraightWrote r (suc n) p i)
      unfolding straight
      more p i a = (λ t. there (or_split _ _ (sym (next.marks p i a) ∙ t)), λ w. next.marks p i a ∙ or-one _ _ (back w))
        where
          there : (mark_of here.gathered.marks p i ≡ true) ⊎ (wrote (instruction_at q n) here.control p i ≡ true)
              → (mark_of r.gathered.marks p i ≡ true) ⊎ StraightWrote r (suc n) p i
          there x = grind arith

          back : (mark_of r.gathered.marks p i ≡ true) ⊎ StraightWrote r (suc n) p i
              → (mark_of here.gathered.marks p i ≡ true) ⊎ (wrote (instruction_at q n) here.control p i ≡ true)
          back x = grind arith

      stays : (p i : ℕ) → p < 16 → i < 64 → (StraightWrote r (suc n) p i → ⊥) → at (straight q (suc n) r).elements p i ≡ at r.elements p i
      unfolding straight
      stays p i a b none =
          next.kept p i a b (not-wrote (wrote (instruction_at q n) here.control p i) refl)
          ∙ l.kept p i a b (λ w. none (older p i w))
        where
          not-wrote : (t : Bool) → wrote (instruction_at q n) here.control p i ≡ t → t ≡ false
          not-wrote t e = grind arith

      one_more : Left (StraightWrote r (suc n)) r (straight q (suc n) r)
      unfolding straight
      one_more = record { fit = next.fit; marks = more; kept = stays }

    pub straight-left : (n : ℕ) → Left (StraightWrote r n) r (straight q n r)
    unfolding straight
    straight-left zero = record {
      fit = f;
      marks = λ p i a. (λ t. inl t, none p i);
      kept = λ p i a b n. refl;
    }
      where
        none : (p i : ℕ) → (mark_of r.gathered.marks p i ≡ true) ⊎ StraightWrote r 0 p i → mark_of r.gathered.marks p i ≡ true
        none p i x = grind arith
    straight-left (suc n) = one_more n (straight-left n)

  acts : (x : ℕ) (r : Run) → Fit r → Stepped (step_wrote (instruction_at q (position x)) (element x) r.control) r (act q x r)
  unfolding act
  acts x r f =
      step-steps (instruction_at q (position x)) (scalar_at q (position x)) r (at-below q (position x)) (register-at (position x)) f (element x) (omega arith)

  -- ---- by a list
  abbrev pub WalkWrote : Run → List ℕ → ℕ → ℕ → Type 0
  WalkWrote r list p i =
      (j : ℕ) × (j < length list)
      × (step_wrote (instruction_at q (position (get_or list j 0))) (element (get_or list j 0)) (walk (act q) (take j list) r).control p i ≡ true)

  -- one entry more
  module _ (x : ℕ) (list : List ℕ) (r : Run) (f : Fit r)
      (rest : Left (WalkWrote (act q x r) list) (act q x r) (walk (act q) list (act q x r))) where
    abbrev entry_writes : ℕ → ℕ → Bool
    entry_writes = step_wrote (instruction_at q (position x)) (element x) r.control

    first : Stepped entry_writes r (act q x r)
    first = acts x r f

    later : (p i : ℕ) → WalkWrote (act q x r) list p i → WalkWrote r (x ∷ list) p i
    unfolding walk
    later p i w = (suc w.0, let h = w.1 in omega arith, w.2)

    there : (p i : ℕ) → p < 16 → (mark_of (act q x r).gathered.marks p i ≡ true) ⊎ WalkWrote (act q x r) list p i
        → (mark_of r.gathered.marks p i ≡ true) ⊎ WalkWrote r (x ∷ list) p i
    unfolding walk
    there p i a (inl t) = by (or_split _ _ (sym (first.marks p i a) ∙ t))
      where
        by : (mark_of r.gathered.marks p i ≡ true) ⊎ (entry_writes p i ≡ true) → (mark_of r.gathered.marks p i ≡ true) ⊎ WalkWrote r (x ∷ list) p i
        by x = grind arith
    there p i a (inr w) = inr (later p i w)

    back : (p i : ℕ) → p < 16 → (mark_of r.gathered.marks p i ≡ true) ⊎ WalkWrote r (x ∷ list) p i
        → (mark_of (act q x r).gathered.marks p i ≡ true) ⊎ WalkWrote (act q x r) list p i
    unfolding walk
    back p i a (inl m) = inl (first.marks p i a ∙ or-one _ _ (inl m))
    back p i a (inr w) = by w.0 w.1 w.2
      where
        by : (j : ℕ) → j < suc (length list)
            → step_wrote (instruction_at q (position (get_or (x ∷ list) j 0))) (element (get_or (x ∷ list) j 0))
            (walk (act q) (take j (x ∷ list)) r).control p i
            ≡ true
            → (mark_of (act q x r).gathered.marks p i ≡ true) ⊎ WalkWrote (act q x r) list p i
        by zero h e = inl (first.marks p i a ∙ or-one (mark_of r.gathered.marks p i) (entry_writes p i) (inr e))
        by (suc j) h e = inr (j, omega arith, e)

    not-wrote : (p i : ℕ) → (WalkWrote r (x ∷ list) p i → ⊥) → (t : Bool) → entry_writes p i ≡ t → t ≡ false
    unfolding walk
    not-wrote p i none t e = grind arith

    entry_more : Left (WalkWrote r (x ∷ list)) r (walk (act q) (x ∷ list) r)
    unfolding walk
    entry_more = record {
      fit = rest.fit;
      marks = λ p i a. (λ t. there p i a ((rest.marks p i a).0 t), λ w. (rest.marks p i a).1 (back p i a w));
      kept = λ p i a b none. rest.kept p i a b (λ w. none (later p i w)) ∙ first.kept p i a b (not-wrote p i none (entry_writes p i) refl);
    }

  pub walk-left : (list : List ℕ) (r : Run) → Fit r → Left (WalkWrote r list) r (walk (act q) list r)
  unfolding walk
  walk-left [] r f = record {
    fit = f;
    marks = λ p i a. (λ t. inl t, none p i);
    kept = λ p i a b n. refl;
  }
    where
      none : (p i : ℕ) → (mark_of r.gathered.marks p i ≡ true) ⊎ WalkWrote r [] p i → mark_of r.gathered.marks p i ≡ true
      none p i x = grind arith
  walk-left (x ∷ list) r f = entry_more x list r f (walk-left list (act q x r) (acts x r f).fit)
