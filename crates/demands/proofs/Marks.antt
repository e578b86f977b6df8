-- THE MARKS, two theorems over any sequence of calls: `exactly`, from new marks a bit is one exactly when the element was written since the last clear; and
-- `redraw`, an element whose mark is zero is as it was. Assumes nothing.
use Rattle.std.specs.Prelude.{Ok, Err}
use mathlib.Core.Bool.{Bool, true, false}
use mathlib.Core.List.{List, [], ◌∷◌}
use mathlib.Core.Logic.{◌⊎◌, ◌↔◌, inl, inr}
use mathlib.Core.Path.{◌≡◌, refl, sym, ap, subst, ◌∙◌}
use Prim.Native.Nat.{ℕ, ◌<◌}
use native.Mathlib.Omega.{arith}
use borrow.Author.Tests.{lt-ltb}
use lib.ListN.{length, length-replicate, get_or-replicate}
use Rattle.numbers.specs.Bits.{bit}
use Rattle.numbers.specs.Choice.{pick}
use Rattle.numbers.proofs.Tests.{pick_true, true-not-false}
use Rattle.numbers.proofs.Unions.{first-bits}
use Rattle.state.specs.Answer.{number_of, is_done}
use Rattle.state.specs.Elements.{at}
use Rattle.state.specs.Marks.{Marked, first_elements, no_marks, all_marks}
use Rattle.state.specs.declared.answer.Refusal.TheVariants.{BadFile}
use Rattle.state.specs.Outcome.{Outcome, outcome, refused_state, refused_marked}
use Rattle.state.specs.State.{state}
use Rattle.opcodes.specs.declared.Instruction.{Instruction}
use Rattle.opcodes.specs.Decoding.{decoded_of}
use Rattle.machine.specs.Run.{Run, begun}
use Rattle.execute.specs.Execute.{executed_of}
use Rattle.touch.specs.Parts.{Queue, size}
use Rattle.touch.specs.Touch.{act}
use Rattle.order.specs.Order.{Verdict, run as walk}
use Rattle.queue.specs.Queue.{acceptance, straight}
use Rattle.queue.specs.Run.{ran_through, ran_by, queue_run, verdict_of, by_verdict, walked_run, ordered_run}
use Rattle.queue.proofs.Calls.{fine-bounded}
use Rattle.queue.proofs.DemandThree.{walked-straight}
use Rattle.saved.specs.Load.{accepted, leading, elements_in, control_in, loading, loading_marked}
use Rattle.saved.proofs.RoundTrip.{elements-length}
use Rattle.kujawian.specs.Face.{left, executed}
use Rattle.demands.specs.Calls.{Call, Lent, lent_state, lent_marked, called}
use Rattle.demands.specs.Calls.{read_vlr, read_vcr, read_vmr_low, read_vmr_high, read_vaer, read_vpsr, write_vlr, write_vcr, write_vmr_low, write_vmr_high, write_vpsr}
use Rattle.demands.specs.Calls.{execute, run, run_order, save, load, clear_marks, reading, list_state, list_file, list_answer, print_run, decode}
use Rattle.demands.specs.Written.{wrote, mark_of}
use Rattle.demands.specs.Two.{Leaves}
use Rattle.demands.specs.Marks.{instruction, nothing, kind_of, KindWrote}
use Rattle.demands.specs.Marks.{Wrote, Clears, Sized, OneCall, Turn, handed, marks_after, after_all, NoClear, WrittenSince}
use Rattle.demands.specs.Marks.{EachCall, AllSized, Exactly, Carried, carried, carrying, chained, Redraw}
use Rattle.demands.proofs.Keeping.{zero-done}
use Rattle.demands.proofs.One as one
use Rattle.demands.proofs.Stepping.{or_split, or-one, Fit, Left, straight-left, walk-left}
use Rattle.demands.proofs.Two as two

-- ---- one call
-- that touches no mark and no element
module _ (call : Call) (l : Lent) (s : Sized l) where
  quiet : kind_of call ≡ nothing → (called call l).1.elements ≡ l.elements → (called call l).1.marks ≡ l.marks → OneCall call l
  quiet kind elements marks = grind arith

  -- that is no clear: where it is refused nothing has changed
  module _ (no-clear : Clears (kind_of call) → ⊥) where
    refused : ((called call l).0.0 ≡ 0 → ⊥) → OneCall call l
    refused n = record {
      sized = subst Sized (sym same) s;
      marks = λ r i a k. (λ t. (no-clear, inl (ap (λ (x : Lent). mark_of x.marks r i) (sym same) ∙ t)), λ w. by r i w.1);
      kept = λ r i a b none. ap (λ (x : Lent). at x.elements r i) same;
    }
      where
        same : (called call l).1 ≡ l
        same = (one.holds call l).kept n

        by : (r i : ℕ) → (mark_of l.marks r i ≡ true) ⊎ Wrote call l r i → mark_of (called call l).1.marks r i ≡ true
        by r i x = grind (arith, same)

    -- and where it is done it marks what it wrote
    record Marking : Type 0 where
      sized : Sized (called call l).1
      marks : (r i : ℕ) → r < 16 → i < 64
          → (mark_of (called call l).1.marks r i ≡ true) ↔ ((mark_of l.marks r i ≡ true) ⊎ KindWrote (kind_of call) l r i)
      kept : (r i : ℕ) → r < 16 → i < 64 → (KindWrote (kind_of call) l r i → ⊥) → at (called call l).1.elements r i ≡ at l.elements r i

    done : (called call l).0.0 ≡ 0 → Marking → OneCall call l
    done n d = grind arith

    by_number : ((called call l).0.0 ≡ 0 → Marking) → OneCall call l
    by_number d = grind (arith, done, refused)

-- ---- one instruction
module _ (opcode cntrl scalar base stride origin : ℕ) (l : Lent) (s : Sized l) where
  abbrev ended : Outcome (Marked × List ℕ)
  ended = executed_of (lent_marked l) opcode cntrl scalar base stride l.bytes origin

  -- how many elements it leaves
  leaves-long : (ins : Instruction) → Leaves ins scalar base stride (lent_state l) l.bytes origin ended.left.0.state ended.left.1
      → length ended.left.0.state.elements ≡ 1024
  leaves-long ins left = grind arith

  executes : number_of ended.answer ≡ 0 → Marking (execute opcode cntrl scalar base stride origin) l s (λ c. c)
  unfolding called executed
  executes n =
      let all = (two.holds).instruction (lent_marked l) opcode cntrl scalar base stride l.bytes origin in
      let found = all.done.0 (zero-done ended.answer n) in
      let ins : Instruction = found.0 in let a = found.1 in
      let after = all.marks s.elements s.marks ins a in
      record {
        sized = record { elements = leaves-long ins (all.leaves s.elements ins a); marks = after.count };
        marks = λ r i h k. (
          λ t. there ins a.says r i (or_split _ _ (sym (after.marks r i h) ∙ t)),
          λ w. after.marks r i h ∙ or-one _ _ (back ins a.says r i w),
        );
        kept = λ r i h k none. all.kept s.elements ins a r i h k (not-wrote ins a.says r i none (wrote ins (lent_state l).control r i) refl);
      }
    where
      there : (ins : Instruction) → decoded_of true false 0 opcode cntrl ≡ Ok ins → (r i : ℕ)
          → (mark_of l.marks r i ≡ true) ⊎ (wrote ins (lent_state l).control r i ≡ true)
          → (mark_of l.marks r i ≡ true) ⊎ KindWrote (instruction opcode cntrl) l r i
      there ins says r i x = grind arith

      back : (ins : Instruction) → decoded_of true false 0 opcode cntrl ≡ Ok ins → (r i : ℕ)
          → (mark_of l.marks r i ≡ true) ⊎ KindWrote (instruction opcode cntrl) l r i
          → (mark_of l.marks r i ≡ true) ⊎ (wrote ins (lent_state l).control r i ≡ true)
      back ins says r i x = grind arith

      not-wrote : (ins : Instruction) → decoded_of true false 0 opcode cntrl ≡ Ok ins → (r i : ℕ) → (KindWrote (instruction opcode cntrl) l r i → ⊥)
          → (t : Bool) → wrote ins (lent_state l).control r i ≡ t → t ≡ false
      not-wrote ins says r i none t e = grind arith

-- ---- a queue, straight through and by a list
module _ (q : Queue) (l : Lent) (s : Sized l) where
  abbrev b : Marked
  b = lent_marked l

  starts_fit : is_done (acceptance b.state.control q) ≡ true → Fit (begun b)
  starts_fit a = grind (arith, fine-bounded)

  -- what is left of a run, as the call leaves it
  module _ (call : Call) (no-clear : Clears (kind_of call) → ⊥) (r : Run)
      (elements : (called call l).1.elements ≡ r.elements) (marks : (called call l).1.marks ≡ r.gathered.marks)
      (d : Left (KindWrote (kind_of call) l) (begun b) r) where
    as-left : Marking call l s no-clear
    as-left = grind arith

  -- the queue was accepted where the number is 0
  module _ (x : Outcome Marked) where
    was-accepted : number_of (pick (is_done (acceptance b.state.control q)) x (refused_marked (acceptance b.state.control q) b)).answer ≡ 0
        → is_done (acceptance b.state.control q) ≡ true
    was-accepted n = grind arith

  runs : number_of (queue_run q b).answer ≡ 0 → Marking (run q) l s (λ c. c)
  unfolding called left queue_run ran_through
  runs n =
      let a = was-accepted (outcome (Ok 0) (ran_through q b)) n in
      let same = pick_true (is_done (acceptance b.state.control q)) (outcome (Ok 0) (ran_through q b))
      (refused_marked (acceptance b.state.control q) b) a in
      as-left (run q) (λ c. c) (straight q (size q) (begun b))
      (ap (λ (o : Outcome Marked). o.left.state.elements) same) (ap (λ (o : Outcome Marked). o.left.marks) same)
      (straight-left q (begun b) (starts_fit a) (size q))

  module _ (list : List ℕ) where
    permitted-if : (v : Verdict) → number_of (by_verdict b (ran_by q list b) v).answer ≡ 0 → v ≡ Ok tt
    permitted-if v n = grind arith

    walks : number_of (ordered_run q list b).answer ≡ 0 → Marking (run_order q list) l s (λ c. c)
    unfolding called left walked_run ran_by
    walks n =
        let x = by_verdict b (ran_by q list b) (verdict_of q b.state.control.vlr list) in
        let walked = ap (λ (o : Outcome Marked). number_of o.answer) (walked-straight q list b) ∙ n in
        let a = was-accepted x walked in
        let same : walked_run q list b ≡ x = pick_true (is_done (acceptance b.state.control q)) x (refused_marked (acceptance b.state.control q) b) a in
        let p = permitted-if (verdict_of q b.state.control.vlr list) (ap (λ (o : Outcome Marked). number_of o.answer) (sym same) ∙ walked) in
        let ends : ordered_run q list b ≡ outcome (Ok 0) (ran_by q list b) =
        sym (walked-straight q list b) ∙ same ∙ ap (by_verdict b (ran_by q list b)) p in
        as-left (run_order q list) (λ c. c) (walk (act q) list (begun b))
        (ap (λ (o : Outcome Marked). o.left.state.elements) ends) (ap (λ (o : Outcome Marked). o.left.marks) ends)
        (walk-left q list (begun b) (starts_fit a))

-- ---- a file, and a clear
module _ (bytes : List ℕ) (l : Lent) (s : Sized l) where
  loaded-if : number_of (loading bytes (lent_state l)).answer ≡ 0 → accepted bytes ≡ true
  unfolding loading
  loaded-if n = grind arith

  loads : number_of (loading_marked bytes (lent_marked l)).answer ≡ 0 → Marking (load bytes) l s (λ c. c)
  unfolding called left loading_marked loading
  loads n =
      let a = loaded-if n in
      let done : is_done (loading bytes (lent_state l)).answer ≡ true = zero-done (loading bytes (lent_state l)).answer n in
      let all : pick (is_done (loading bytes (lent_state l)).answer) all_marks l.marks ≡ all_marks = pick_true _ _ _ done in
      record {
        sized = record {
          elements = ap (λ (t : Bool). length (pick t (outcome (Ok 0) (state (elements_in 1024 bytes l.elements) (control_in bytes)))
              (refused_state (Err (BadFile (leading 1029 bytes))) (lent_state l))).left.elements) a ∙ elements-length 1024 bytes l.elements ∙ s.elements;
          marks = ap length all ∙ length-replicate 16 (first_elements 64);
        };
        marks = λ r i h k. (
          λ t. inr tt,
          λ w. ap (λ (m : List ℕ). mark_of m r i) all ∙ ap (λ (x : ℕ). bit x i) (get_or-replicate 16 r (first_elements 64) 0 h) ∙ first-bits 64 i
              ∙ lt-ltb i 64 k,
        );
        kept = λ r i h k none. absurd (none tt);
      }

clears : (l : Lent) → Sized l → OneCall clear_marks l
unfolding called
clears l s = grind arith

-- ---- every call
pub one-call : (call : Call) (l : Lent) → EachCall call l
unfolding called executed left
one-call (execute opcode cntrl scalar base stride origin) l s = by_number _ l s (λ c. c) (executes opcode cntrl scalar base stride origin l s)
one-call (run q) l s = by_number _ l s (λ c. c) (runs q l s)
one-call (run_order q list) l s = by_number _ l s (λ c. c) (walks q l s list)
one-call (load bytes) l s = by_number _ l s (λ c. c) (loads bytes l s)
one-call clear_marks l s = clears l s
one-call read_vlr l s = quiet _ l s refl refl refl
one-call read_vcr l s = quiet _ l s refl refl refl
one-call read_vmr_low l s = quiet _ l s refl refl refl
one-call read_vmr_high l s = quiet _ l s refl refl refl
one-call read_vaer l s = quiet _ l s refl refl refl
one-call read_vpsr l s = quiet _ l s refl refl refl
one-call (write_vlr value) l s = quiet _ l s refl refl refl
one-call (write_vcr value) l s = quiet _ l s refl refl refl
one-call (write_vmr_low value) l s = quiet _ l s refl refl refl
one-call (write_vmr_high value) l s = quiet _ l s refl refl refl
one-call (write_vpsr value) l s = quiet _ l s refl refl refl
one-call save l s = quiet _ l s refl refl refl
one-call (reading register e shown) l s = quiet _ l s refl refl refl
one-call list_state l s = quiet _ l s refl refl refl
one-call (list_file bytes) l s = quiet _ l s refl refl refl
one-call (list_answer answer) l s = quiet _ l s refl refl refl
one-call (print_run input) l s = quiet _ l s refl refl refl
one-call (decode enabled within place opcode cntrl) l s = quiet _ l s refl refl refl

-- ---- any sequence of calls
module _ (r i : ℕ) (h : r < 16) (k : i < 64) where
  -- from any marks: those that were there stay until a clear
  abbrev Since : List Turn → List ℕ → Type 0
  Since ts m = ((mark_of m r i ≡ true) × NoClear ts) ⊎ WrittenSince ts m r i

  module _ (t : Turn) (ts : List Turn) (m : List ℕ) (o : OneCall t.call (handed t m))
      (rest : (mark_of (after_all ts (marks_after t m)) r i ≡ true) ↔ Since ts (marks_after t m)) where
    there : Since ts (marks_after t m) → Since (t ∷ ts) m
    there x = grind arith

    back : Since (t ∷ ts) m → Since ts (marks_after t m)
    back x = grind arith

    turned : (mark_of (after_all (t ∷ ts) m) r i ≡ true) ↔ Since (t ∷ ts) m
    unfolding after_all
    turned = grind arith

  since : (ts : List Turn) (m : List ℕ) → length m ≡ 16 → AllSized ts → (mark_of (after_all ts m) r i ≡ true) ↔ Since ts m
  unfolding after_all
  since [] m sixteen sized = (λ x. inl (x, tt), none)
    where
      none : Since [] m → mark_of m r i ≡ true
      none x = grind arith
  since (t ∷ ts) m sixteen sized =
      let o = one-call t.call (handed t m) (record { elements = sized.0; marks = sixteen }) in
      turned t ts m o (since ts (marks_after t m) o.sized.marks sized.1)

-- FROM NEW MARKS
pub exactly : (ts : List Turn) (r i : ℕ) → Exactly ts r i
exactly ts r i sized h k =
    let all = since r i h k ts no_marks (length-replicate {A = ℕ} 16 0) sized in
    (λ x. written (all.0 x), λ w. all.1 (inr w))
  where
    written : ((mark_of no_marks r i ≡ true) × NoClear ts) ⊎ WrittenSince ts no_marks r i → WrittenSince ts no_marks r i
    written x = grind arith

-- ---- calls that hand on elements and marks
module _ (r i : ℕ) (h : r < 16) (k : i < 64) where
  stays : (ts : List Turn) (x : Carried) → length x.elements ≡ 1024 → length x.marks ≡ 16 → NoClear ts → mark_of x.marks r i ≡ true
      → mark_of (chained ts x).marks r i ≡ true
  unfolding chained
  stays [] x e m none t = t
  stays (u ∷ ts) x e m none t =
      let o = one-call u.call (carrying u x) (record { elements = e; marks = m }) in
      stays ts (carried (called u.call (carrying u x)).1) o.sized.elements o.sized.marks none.1 ((o.marks r i h k).1 (none.0, inl t))

  -- AN ELEMENT WHOSE MARK IS ZERO
  shows : (ts : List Turn) (x : Carried) → length x.elements ≡ 1024 → length x.marks ≡ 16 → NoClear ts → mark_of (chained ts x).marks r i ≡ false
      → at (chained ts x).elements r i ≡ at x.elements r i
  unfolding chained
  shows [] x e m none z = refl
  shows (u ∷ ts) x e m none z =
      let o = one-call u.call (carrying u x) (record { elements = e; marks = m }) in
      let next = carried (called u.call (carrying u x)).1 in
      shows ts next o.sized.elements o.sized.marks none.1 z
      ∙ o.kept r i h k (λ w. true-not-false
      (sym z ∙ stays ts next o.sized.elements o.sized.marks none.1 ((o.marks r i h k).1 (none.0, inr w))))

pub redraw : (ts : List Turn) (x : Carried) (r i : ℕ) → Redraw ts x r i
redraw ts x r i e m none h k z = shows r i h k ts x e m none z
