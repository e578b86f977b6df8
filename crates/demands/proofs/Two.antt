-- DEMAND 2, the theorem `holds`: when an instruction is done, and what it then leaves, from its entry state; and the two round trips of saving and
-- loading. Assumes nothing.
use Rattle.std.specs.Prelude.{Ok, Err}
use mathlib.Core.Bool.{Bool, true, false, ◌&&◌}
use mathlib.Core.List.{List}
use mathlib.Core.Path.{◌≡◌, refl, sym, ap, subst, ◌∙◌}
use Prim.Native.Nat.{ℕ, ◌+◌, ◌≤◌, ◌<◌}
use native.Mathlib.Omega.{arith}
use lib.Dec.{eqb}
use lib.ListN.{length, get_or}
use Rattle.numbers.specs.Choice.{pick}
use Rattle.numbers.proofs.Sets.{bit-none}
use Rattle.numbers.proofs.Tests.{pick-false}
use Rattle.numbers.proofs.Unions.{chosen_below, chosen-bits}
use Rattle.state.specs.declared.Control.{Control}
use Rattle.state.specs.declared.answer.Refusal.TheVariants.{OutOfRange}
use Rattle.state.specs.Answer.{is_done}
use Rattle.state.specs.Marks.{Marked, marked}
use Rattle.state.specs.Outcome.{Outcome, outcome, refused_window}
use Rattle.state.specs.State.{State, state, in_range, enabled}
use Rattle.state.specs.Elements.{at}
use Rattle.state.proofs.Marking.{marks-none}
use Rattle.state.proofs.Ranges.{Ranged, ranged}
use Rattle.opcodes.specs.declared.Instruction.{Instruction}
use Rattle.opcodes.specs.Opcodes.{is_memory}
use Rattle.opcodes.specs.Decoding.{Decoded, decoded_of}
use Rattle.opcodes.specs.Masking.{operated}
use Rattle.opcodes.specs.Working.{Below}
use Rattle.opcodes.proofs.Passed.{passed}
use Rattle.machine.specs.Run.{begun}
use Rattle.machine.specs.Instruction.{whole_of, instruction_done}
use Rattle.memory.specs.Works.{is_store, is_quadword}
use Rattle.memory.specs.Window.{allowed, number_at}
use Rattle.memory.specs.Move.{received, moves_by, moved_of}
use Rattle.memory.proofs.Outcomes as memory
use Rattle.execute.specs.Execute.{carried_out, as_decoded, executed_of}
use Rattle.saved.proofs.Saving.{saves-done}
use Rattle.saved.proofs.RoundTrip.{loads-again, saves-again}
use Rattle.demands.specs.Two.{place_in, bytes_each, Inside, Loaded, Stored, Accepts, Leaves, OneInstruction, DemandTwo}
use Rattle.demands.specs.Written.{wrote_element, wrote, MarksAfter}
use Rattle.demands.proofs.Coming.{come}
use Rattle.demands.proofs.MarksOf.{joins-marks, marks-come, Wrote, whole-wrote}
use Rattle.demands.proofs.Elementwise as elementwise
use Rattle.demands.proofs.Counting as counting
use Rattle.demands.proofs.Moved.{loaded, stored-length, stored-others, stored_bytes}

-- ---- the elements that are operated on are below VLR
below : (ins : Instruction) (c : Control) (i : ℕ) → operated ins c i ≡ true → i < c.vlr
unfolding operated
below ins c i e = grind arith

every : (ins : Instruction) (c : Control) (i : ℕ) → come (operated ins c) c.vlr i ≡ operated ins c i
unfolding operated
every ins c i = grind arith

-- ---- a memory instruction
module _ (ins : Instruction) (base stride : ℕ) (b : Marked) (origin : ℕ) (w : List ℕ) where
  -- that was done
  module _ (done : is_done (moved_of b ins base stride w origin).answer ≡ true) where
    abbrev told : memory.Ok b ins base stride w origin
    told = memory.moved-done b ins base stride w origin done

    inside : (i : ℕ) → operated ins b.state.control i ≡ true → Inside ins base stride b.state origin (length w) i
    inside i e =
        let f = told.fit i (below ins b.state.control i e) e in
        record { aligned = f.aligned; from = f.from; to = let a = f.from in let b = f.to in omega arith }

    -- it moved elements, or bytes
    abbrev moves : Bool → List ℕ × List ℕ × List ℕ
    moves store =
        moves_by store (is_quadword ins.work) ins.vc.0 (operated ins b.state.control) (place_in ins base stride b.state origin)
        b.state.control.vlr
        b.state.elements b.marks w

    moved : (store : Bool) → is_store ins.work ≡ store
        → (moved_of b ins base stride w origin).left ≡ (marked (state (moves store).0 b.state.control) (moves store).1, (moves store).2)
    moved store e = rw (← e) told.moved

    loads : ins.vc.0 < 16 → length b.state.elements ≡ 1024 → b.state.control.vlr ≤ 64 → is_store ins.work ≡ false
        → Loaded ins base stride b.state origin w (moved_of b ins base stride w origin).left.1 (moved_of b ins base stride w origin).left.0.state
    loads register count few e =
        let m = moved false e in
        let gets : ℕ → ℕ → ℕ =
        λ r i. received (is_quadword ins.work) (at b.state.elements r i) (number_at (bytes_each ins) w (place_in ins base stride b.state origin i)) in
        let u = loaded (is_quadword ins.work) ins.vc.0 (operated ins b.state.control) (place_in ins base stride b.state origin) w
        b.state.elements register count
        b.state.control.vlr few in
        record {
          count = ap (λ (x : Marked × List ℕ). length x.0.state.elements) m ∙ u.long;
          elements = λ r i a k. ap (λ (x : Marked × List ℕ). at x.0.state.elements r i) m ∙ u.elements r i a k
              ∙ ap (λ (t : Bool). pick (eqb r ins.vc.0 && t) (gets r i) (at b.state.elements r i)) (every ins b.state.control i);
          control = ap (λ (x : Marked × List ℕ). x.0.state.control) m;
          window = ap (λ (x : Marked × List ℕ). x.1) m;
        }

    fit : (i : ℕ) → i < b.state.control.vlr → operated ins b.state.control i ≡ true
        → place_in ins base stride b.state origin i + bytes_each ins ≤ length w
    fit i h e = (inside i e).to

    stores : is_store ins.work ≡ true
        → Stored ins base stride b.state origin w (moved_of b ins base stride w origin).left.1 (moved_of b ins base stride w origin).left.0.state
    stores e =
        let m = moved true e in
        let q = is_quadword ins.work in
        record {
          bytes = λ i k c h later. ap (λ (x : Marked × List ℕ). get_or x.1 (place_in ins base stride b.state origin i + k) 0) m
              ∙ stored_bytes q ins.vc.0 (operated ins b.state.control) (place_in ins base stride b.state origin) w b.state.elements
              b.state.control.vlr fit i k
              (below ins b.state.control i c) c h (λ j a _. later j a);
          others = λ k misses. ap (λ (x : Marked × List ℕ). get_or x.1 k 0) m
              ∙ stored-others q ins.vc.0 (operated ins b.state.control) (place_in ins base stride b.state origin) w b.state.elements
              b.state.control.vlr fit k
              (λ i h. misses i);
          length = ap (λ (x : Marked × List ℕ). length x.1) m
              ∙ stored-length q ins.vc.0 (operated ins b.state.control) (place_in ins base stride b.state origin) w b.state.elements
              b.state.control.vlr fit;
          state = ap (λ (x : Marked × List ℕ). x.0.state) m;
        }

  -- that has to be done
  does : allowed (length w) origin ≡ true → ((i : ℕ) → operated ins b.state.control i ≡ true → Inside ins base stride b.state origin (length w) i)
      → (moved_of b ins base stride w origin).answer ≡ Ok 0
  does window inside = grind (arith, memory.done-if)

-- ---- the call
module _ (b : Marked) (opcode cntrl scalar base stride : ℕ) (w : List ℕ) (origin : ℕ) where
  abbrev executed : Outcome (Marked × List ℕ)
  executed = executed_of b opcode cntrl scalar base stride w origin

  abbrev Accepted-as : Instruction → Type 0
  Accepted-as ins = Accepts b.state opcode cntrl base stride w origin ins

  -- ---- what is done was accepted
  off : (ins : Instruction) → decoded_of false false 0 opcode cntrl ≡ Ok ins → ⊥
  unfolding decoded_of
  off ins = grind arith

  module _ (ranged : in_range b.state.control ≡ true) where
    carried-accepts : (ins : Instruction) → enabled b.state.control ≡ true → decoded_of true false 0 opcode cntrl ≡ Ok ins
        → is_done (carried_out ins b scalar base stride w origin).answer ≡ true → Accepted-as ins
    unfolding carried_out
    carried-accepts ins on says done = by (is_memory ins.work) refl done
      where
        by : (t : Bool) → is_memory ins.work ≡ t
            → is_done (pick t (moved_of b ins base stride w origin) (outcome (Ok 0) (instruction_done ins scalar b, w))).answer ≡ true → Accepted-as ins
        by true m done = record {
          ranged = ranged;
          on = on;
          says = says;
          window = λ _. (memory.moved-done b ins base stride w origin done).window;
          inside = λ _. inside ins base stride b origin w done;
        }
        by false m done = record {
          ranged = ranged;
          on = on;
          says = says;
          window = λ n. cc;
          inside = λ n. cc;
        }

    decoded-accepts : (e : Bool) → enabled b.state.control ≡ e → (d : Decoded) → decoded_of e false 0 opcode cntrl ≡ d
        → is_done (as_decoded d b scalar base stride w origin).answer ≡ true → (ins : Instruction) × Accepted-as ins
    decoded-accepts e on (Err refusal) is done = cc
    decoded-accepts true on (Ok ins) is done = (ins, carried-accepts ins on is done)
    decoded-accepts false on (Ok ins) is done = absurd (off ins is)

  abbrev made : Outcome (Marked × List ℕ)
  made = as_decoded (decoded_of (enabled b.state.control) false 0 opcode cntrl) b scalar base stride w origin

  was-accepted : is_done executed.answer ≡ true → (ins : Instruction) × Accepted-as ins
  unfolding executed_of
  was-accepted = by (in_range b.state.control) refl
    where
      by : (t : Bool) → in_range b.state.control ≡ t → is_done (pick t made (refused_window (Err OutOfRange) b w)).answer ≡ true
          → (ins : Instruction) × Accepted-as ins
      by true r done = decoded-accepts r (enabled b.state.control) refl (decoded_of (enabled b.state.control) false 0 opcode cntrl) refl done
      by false r done = cc

  -- ---- what is accepted is done
  module _ (ins : Instruction) (a : Accepted-as ins) where
    carries : executed ≡ carried_out ins b scalar base stride w origin
    unfolding executed_of
    carries = grind arith

    -- a memory instruction moves; a register instruction is done
    moves-memory : is_memory ins.work ≡ true → executed ≡ moved_of b ins base stride w origin
    unfolding carried_out
    moves-memory m = grind (arith, carries)

    is-register : is_memory ins.work ≡ false → executed ≡ outcome (Ok 0) (instruction_done ins scalar b, w)
    unfolding carried_out
    is-register m = grind (arith, carries)

    moves-done : is_memory ins.work ≡ true → (moved_of b ins base stride w origin).answer ≡ Ok 0
    moves-done m = grind (arith, does)

    gives : executed.answer ≡ Ok 0
    gives = grind (arith, moves-memory, moves-done, is-register)

    module _ (count : length b.state.elements ≡ 1024) where
      fields : Below ins
      fields = let p = passed true false 0 opcode cntrl ins a.says in record { va = p.va-below; vb = p.vb-below; vc = p.vc-below }

      range : Ranged b.state.control
      range = ranged b.state.control a.ranged

      abbrev Left : Outcome (Marked × List ℕ) → Type 0
      Left o = Leaves ins scalar base stride b.state w origin o.left.0.state o.left.1

      leaves : Left executed
      leaves = by (is_memory ins.work) refl
        where
          by : (t : Bool) → is_memory ins.work ≡ t → Left executed
          by true m = subst Left (sym (moves-memory m)) record {
            elementwise = λ n. cc;
            iota = λ n. cc;
            loads = λ _ e. loads ins base stride b origin w (ap is_done (moves-done m)) fields.vc count range.vlr e;
            stores = λ _ e. stores ins base stride b origin w (ap is_done (moves-done m)) e;
          }
          by false m = subst Left (sym (is-register m)) record {
            elementwise = λ _ e. (elementwise.leaves ins scalar b fields count e range.vlr range.vpsr, refl);
            iota = λ _ e. (counting.leaves ins scalar b fields count e range.vlr, refl);
            loads = λ n. cc;
            stores = λ n. cc;
          }

      register-wrote : is_memory ins.work ≡ false → Wrote ins (begun b) (whole_of ins scalar (begun b))
      register-wrote m = whole-wrote ins scalar (begun b) fields m count range.vlr

      -- ---- the marks
      module _ (sixteen : length b.marks ≡ 16) where
        abbrev After : Outcome (Marked × List ℕ) → Type 0
        After o = MarksAfter ins b.state.control b.marks o.left.0.marks

        -- a load's are those of the operated elements
        load-marks : is_memory ins.work ≡ true → is_store ins.work ≡ false → After (moved_of b ins base stride w origin)
        load-marks m e =
            joins-marks ins b.state.control b.marks _ (chosen_below (operated ins b.state.control) b.state.control.vlr) fields.vc sixteen
            (ap (λ (x : Marked × List ℕ). x.0.marks) (moved ins base stride b origin w (ap is_done (moves-done m)) false e)
            ∙ marks-come ins.vc.0 (operated ins b.state.control) b.state.control.vlr b.marks)
            (λ i. chosen-bits (operated ins b.state.control) b.state.control.vlr i ∙ every ins b.state.control i ∙ rw (m, e) refl)

        store-marks : is_memory ins.work ≡ true → is_store ins.work ≡ true → After (moved_of b ins base stride w origin)
        store-marks m e =
            joins-marks ins b.state.control b.marks _ 0 fields.vc sixteen
            (ap (λ (x : Marked × List ℕ). x.0.marks) (moved ins base stride b origin w (ap is_done (moves-done m)) true e)
            ∙ sym (marks-none b.marks ins.vc.0))
            (λ i. bit-none i ∙ rw (m, e) refl)

        marks : After executed
        unfolding instruction_done
        marks = grind (arith, moves-memory, store-marks, load-marks, is-register, register-wrote)

      -- ---- what was not written is kept
      abbrev Keeps : Outcome (Marked × List ℕ) → Type 0
      Keeps o =
          (r i : ℕ) → r < 16 → i < 64 → wrote ins b.state.control r i ≡ false → at o.left.0.state.elements r i ≡ at b.state.elements r i

      load_kept : is_memory ins.work ≡ true → is_store ins.work ≡ false → Keeps executed
      unfolding wrote
      load_kept m e r i h k none = (leaves.loads m e).elements r i h k
          ∙ pick-false (eqb r ins.vc.0 && operated ins b.state.control i) _ _ (same ∙ none)
        where
          same : (eqb r ins.vc.0 && operated ins b.state.control i) ≡ (eqb r ins.vc.0 && wrote_element ins b.state.control i)
          same = rw (m, e) refl

      kept : Keeps executed
      unfolding instruction_done
      kept = by (is_memory ins.work) refl (is_store ins.work) refl
        where
          by : (t : Bool) → is_memory ins.work ≡ t → (u : Bool) → is_store ins.work ≡ u → Keeps executed
          by true m true e = λ r i h k none. ap (λ (s : State). at s.elements r i) (leaves.stores m e).state
          by true m false e = load_kept m e
          by false m u e = subst Keeps (sym (is-register m)) (register-wrote m).kept

-- any state, marks, opcode, control word, scalar, base, stride, window and origin
instruction : (b : Marked) (opcode cntrl scalar base stride : ℕ) (w : List ℕ) (origin : ℕ) → OneInstruction b opcode cntrl scalar base stride w origin
instruction b opcode cntrl scalar base stride w origin = record {
  done = (
    was-accepted b opcode cntrl scalar base stride w origin,
    λ x. ap is_done (gives b opcode cntrl scalar base stride w origin x.0 x.1),
  );
  gives = gives b opcode cntrl scalar base stride w origin;
  leaves = λ count ins a. leaves b opcode cntrl scalar base stride w origin ins a count;
  marks = λ count sixteen ins a. marks b opcode cntrl scalar base stride w origin ins a count sixteen;
  kept = λ count ins a. kept b opcode cntrl scalar base stride w origin ins a count;
}

-- DEMAND 2
pub holds : DemandTwo
holds = record {
  instruction = instruction;
  load-of-save = λ s held old room count h.
      (ap (λ (o : Outcome (List ℕ)). o.answer) (saves-done s room held.ranged h), loads-again s old room held count h);
  save-of-load = λ file bytes old s room count e h. saves-again file old s room bytes count e h;
}
