-- The two calls on a queue, from what their parts give. Assumes nothing.
use Rattle.std.specs.Prelude.{Ok, Err}
use mathlib.Core.Path.{◌≡◌, refl, sym, ap, subst, ◌∙◌}
use mathlib.Core.Bool.{Bool, true, false, ◌&&◌}
use mathlib.Core.List.{List}
use Prim.Native.Nat.{ℕ, ◌≤◌, ◌<◌}
use native.Mathlib.Omega.{arith}
use borrow.Author.Tests.{leb-true}
use lib.ListN.{length, get_or}
use lib.Seq.{take-length}
use Rattle.numbers.specs.Choice.{pick}
use Rattle.state.specs.declared.Control.{Control}
use Rattle.state.specs.Answer.{Answer, is_done}
use Rattle.state.specs.declared.answer.Refusal.TheVariants.{Disabled, QueueRefused, OrderRefused, OutOfRange}
use Rattle.state.specs.Marks.{Marked, marked}
use Rattle.state.specs.Outcome.{Outcome, outcome, refused_marked}
use Rattle.state.specs.State.{state, in_range, enabled, length_in_range, vaer_in_range, vpsr_in_range}
use Rattle.machine.specs.declared.Progress.{Progress}
use Rattle.machine.specs.Run.{ended, finished, starting, under_way}
use Rattle.machine.proofs.Gather.{finishes}
use Rattle.touch.specs.Parts.{Queue, size, instruction_at}
use Rattle.queue.specs.Queue.{well_formed, positions, acceptance, straight}
use Rattle.queue.specs.Run.{ran_through, queue_run, verdict_of, by_verdict, ran_by, walked_run}
use Rattle.order.specs.Order.{Verdict, Mem, Proper, run as walk_of}
use Rattle.order.specs.Steps.{position}
use Rattle.touch.specs.Touch.{steps_of, must_precede, act}
use Rattle.queue.specs.CallsWorking.{decoded_at, act_by, through_by, standing}
use Rattle.opcodes.specs.declared.Instruction.{Instruction}
use Rattle.order.proofs.Meaning.{place_in}
use Rattle.queue.proofs.Claim.{permitted-proper}
use Rattle.touch.proofs.Steps.{step_of, step-position}
use Rattle.queue.proofs.Through.{same-through, same-acts}
use Rattle.order.proofs.RunLoop.{run-same}
use Rattle.queue.proofs.Accepting.{Lengths, lengths}
use Rattle.order.proofs.Tests.{both}

-- ---- an accepted queue
pick-fine : (b : Bool) (a r : Answer) → is_done r ≡ false → is_done (pick b a r) ≡ true → (b ≡ true) × (is_done a ≡ true)
pick-fine true a r e f = (refl, f)
pick-fine false a r e f = absurd (let z : ◌≡◌ {A = ℕ} 0 1 = cc in omega arith)

pub record Bounded (c : Control) (q : Queue) : Type 0 where
  pub short : c.vlr ≤ 64
  pub lengths : Lengths q

-- whatever it gets after the range and the form
bounded : (c : Control) (q : Queue) (x : Answer) → is_done (pick (in_range c) (pick (well_formed q) x (Err QueueRefused)) (Err OutOfRange)) ≡ true
    → Bounded c q
unfolding in_range
bounded c q x e =
    let u = pick-fine (in_range c) _ (Err OutOfRange) refl e in
    let v = pick-fine (well_formed q) _ (Err QueueRefused) refl u.1 in
    let w = both (length_in_range c.vlr && length_in_range c.vcr && vaer_in_range c.vaer) (vpsr_in_range c.vpsr) u.0 in
    let x = both (length_in_range c.vlr && length_in_range c.vcr) (vaer_in_range c.vaer) w.0 in
    let y = both (length_in_range c.vlr) (length_in_range c.vcr) x.0 in
    record { short = leb-true c.vlr 64 y.0; lengths = lengths q v.0 }

pub stands-bounded : (c : Control) (q : Queue) (r : Answer) → r ≡ standing c q → is_done r ≡ true → Bounded c q
unfolding standing
stands-bounded c q r e f = bounded c q (pick (enabled c) (Ok 0) (Err Disabled)) (sym (ap is_done e) ∙ f)

pub fine-bounded : (c : Control) (q : Queue) → is_done (acceptance c q) ≡ true → Bounded c q
unfolding acceptance
fine-bounded c q = bounded c q (pick (enabled c) (positions q (size q)) (Err Disabled))

pub fine-in-range : (c : Control) (q : Queue) → is_done (acceptance c q) ≡ true → in_range c ≡ true
unfolding acceptance
fine-in-range c q e = (pick-fine (in_range c) _ (Err OutOfRange) refl e).0

module _ (q : Queue) (l m : List ℕ) (c : Control) (r : Answer) (asked : r ≡ acceptance c q) where
  -- the state that the call is handed, and its marks
  abbrev here : Marked
  here = marked (state l c) m

  pub reply-bounded : is_done r ≡ true → Bounded c q
  reply-bounded f = fine-bounded c q (sym (ap is_done asked) ∙ f)

  -- what a call gives whose accepted queue gives x
  by-reply : (x : Outcome Marked) (t : Bool) → is_done r ≡ t → pick t x (refused_marked (acceptance c q) here)
      ≡ pick (is_done (acceptance c q)) x (refused_marked (acceptance c q) here)
  by-reply x t f = sym (ap (λ (b : Bool). pick b x (refused_marked (acceptance c q) here)) (sym (ap is_done asked) ∙ f))

  by-refusal : (x : Outcome Marked) → is_done r ≡ false → refused_marked r here ≡ pick (is_done (acceptance c q)) x (refused_marked (acceptance c q) here)
  by-refusal x f = ap (λ (a : Answer). refused_marked a here) asked ∙ by-reply x false f

  -- ---- straight through
  pub run-refused : is_done r ≡ false → refused_marked r here ≡ queue_run q here
  unfolding queue_run
  run-refused = by-refusal _

  module _ (f : is_done r ≡ true) (program : List Instruction) (same : (k : ℕ) → k < size q → decoded_at program k ≡ instruction_at q k) where
    module _ (l' m' : List ℕ) (p p' : Progress) (c' : Control) (starts : p ≡ starting c)
        (ends : c' ≡ ended p'.control p'.noted.vaer p'.noted.recorded) where
      through : under_way l' m' p' ≡ through_by program q.scalars (length q.scalars) (under_way l m p) → marked (state l' c') m' ≡ ran_through q here
      unfolding ran_through
      through e =
          finishes l' m' p' c' ends
          ∙ ap finished
          (e
          ∙ ap (λ (n : ℕ). through_by program q.scalars n (under_way l m p)) (reply-bounded f).lengths.scalars
          ∙ same-through q program same (size q) (omega arith) (under_way l m p)
          ∙ ap (λ (b : Progress). straight q (size q) (under_way l m b)) starts)

      pub run-done : under_way l' m' p' ≡ through_by program q.scalars (length q.scalars) (under_way l m p)
          → outcome (Ok 0) (marked (state l' c') m') ≡ queue_run q here
      unfolding queue_run
      run-done e = ap (outcome (Ok 0)) (through e) ∙ by-reply _ true f

  -- ---- by a list
  pub order-refused : is_done r ≡ false → (list : List ℕ) → refused_marked r here ≡ walked_run q list here
  unfolding walked_run
  order-refused f list = by-refusal _ f

  module _ (f : is_done r ≡ true) (list : List ℕ) where
    as-walked : by_verdict here (ran_by q list here) (verdict_of q c.vlr list) ≡ walked_run q list here
    unfolding walked_run
    as-walked = by-reply _ true f

    pub order-stopped : (v : Verdict) (place : ℕ) → v ≡ verdict_of q c.vlr list → v ≡ Err place
        → refused_marked (Err (OrderRefused place)) here ≡ walked_run q list here
    order-stopped v place e g = ap (by_verdict here (ran_by q list here)) (sym g ∙ e) ∙ as-walked

    module _ (program : List Instruction) (same : (k : ℕ) → k < size q → decoded_at program k ≡ instruction_at q k) (v : Verdict)
        (e : v ≡ verdict_of q c.vlr list) (permitted : v ≡ Ok tt) where
      allowed : verdict_of q c.vlr list ≡ Ok tt
      allowed = sym e ∙ permitted

      proper : Proper (must_precede q c.vlr) (steps_of q c.vlr) list
      proper = (permitted-proper q c.vlr list).0 allowed

      pub entry-position : (i : ℕ) → i < length list → position (get_or list i 0) < size q
      entry-position i h = step-position q c.vlr (get_or list i 0) (step_of q c.vlr (get_or list i 0) (proper.only i h))

      entry_of : (x : ℕ) → Mem x list → position x < size q
      entry_of x m = let w = place_in x list (length list) (rw take-length m) in subst (λ (y : ℕ). position y < size q) w.3 (entry-position w.0 w.1)

      by_entries : (l' m' : List ℕ) (p p' : Progress) (c' : Control) → p ≡ starting c → c' ≡ ended p'.control p'.noted.vaer p'.noted.recorded
          → under_way l' m' p' ≡ walk_of (act_by program q.scalars) list (under_way l m p)
          → marked (state l' c') m' ≡ ran_by q list here
      unfolding ran_by
      by_entries l' m' p p' c' starts ends w =
          finishes l' m' p' c' ends
          ∙ ap finished
          (w
          ∙ run-same (act_by program q.scalars) (act q) list (λ x m z. same-acts q program same x (entry_of x m) z) (under_way l m p)
          ∙ ap (λ (b : Progress). walk_of (act q) list (under_way l m b)) starts)

      pub order-done : (l' m' : List ℕ) (p p' : Progress) (c' : Control) → p ≡ starting c → c' ≡ ended p'.control p'.noted.vaer p'.noted.recorded
          → under_way l' m' p' ≡ walk_of (act_by program q.scalars) list (under_way l m p)
          → outcome (Ok 0) (marked (state l' c') m') ≡ walked_run q list here
      order-done l' m' p p' c' starts ends w =
          ap (outcome (Ok 0)) (by_entries l' m' p p' c' starts ends w)
          ∙ sym (ap (by_verdict here (ran_by q list here)) allowed)
          ∙ as-walked
