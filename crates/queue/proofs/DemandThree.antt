-- DEMAND 3: every permitted list of a queue's steps, walked one entry at a time, ends where the queue ends straight through.
-- Assumes nothing.
use Rattle.std.specs.Prelude.{Ok, Err}
use mathlib.Core.Path.{◌≡◌, refl, sym, ap, subst, ◌∙◌}
use mathlib.Core.Logic.{◌↔◌}
use mathlib.Core.Bool.{Bool, true, false}
use mathlib.Core.List.{List}
use Prim.Native.Nat.{ℕ, ◌≤◌}
use native.Mathlib.Omega.{arith}
use Rattle.numbers.specs.Choice.{pick}
use Rattle.numbers.proofs.Tests.{pick_true}
use Rattle.state.specs.Answer.{number_of, beside_of, is_done}
use Rattle.state.specs.Marks.{Marked}
use Rattle.state.specs.Outcome.{Outcome, after_refusal, refused_marked}
use Rattle.machine.specs.Run.{Run, begun, finished}
use Rattle.order.specs.Order.{Verdict, Right, Proper}
use Rattle.touch.specs.Parts.{Queue}
use Rattle.touch.specs.Touch.{steps_of, must_precede}
use Rattle.queue.specs.Queue.{acceptance}
use Rattle.queue.specs.Run.{verdict_of, by_verdict, ran_through, ran_by, walked_run, ordered_run}
use Rattle.queue.specs.Claim.{Claim, AcceptedClaim}
use Rattle.queue.proofs.Claim.{permitted-proper, verdict-right, permitted-straight}
use Rattle.queue.proofs.Calls.{fine-bounded}

-- THE CALL BY A LIST: for every queue, list, state and marks, walked entry by entry it gives and leaves what it gives and leaves with the straight run's
-- state and marks
pub walked-straight : (q : Queue) (list : List ℕ) (b : Marked) → walked_run q list b ≡ ordered_run q list b
unfolding walked_run ordered_run ran_by ran_through
walked-straight q list b = at (is_done (acceptance b.state.control q)) refl
  where
    by : (v : Verdict) → verdict_of q b.state.control.vlr list ≡ v → b.state.control.vlr ≤ 64
        → by_verdict b (ran_by q list b) v ≡ by_verdict b (ran_through q b) v
    by (Ok tt) e short = ap (λ (r : Run). by_verdict b (finished r) (Ok tt)) (permitted-straight q (begun b) short list e)
    by (Err place) e short = refl

    at : (t : Bool) → is_done (acceptance b.state.control q) ≡ t
        → pick t (by_verdict b (ran_by q list b) (verdict_of q b.state.control.vlr list)) (refused_marked (acceptance b.state.control q) b)
        ≡ pick t (by_verdict b (ran_through q b) (verdict_of q b.state.control.vlr list)) (refused_marked (acceptance b.state.control q) b)
    at true e = by (verdict_of q b.state.control.vlr list) refl (fine-bounded b.state.control q e).short
    at false e = refl

-- THE CLAIM: of the call by a list, of any queue that is accepted
pub claim : (q : Queue) (list : List ℕ) (b : Marked) (o : Outcome Marked) → o ≡ walked_run q list b
    → AcceptedClaim q list b (number_of o.answer) (beside_of o.answer) o.left
unfolding walked_run ran_by ran_through after_refusal
claim q list b o e accepted =
    subst (λ (x : Outcome Marked). Claim q list b (number_of x.answer) (beside_of x.answer) x.left)
    (sym (e ∙ pick_true (is_done (acceptance b.state.control q)) _ _ accepted))
    (by (verdict_of q b.state.control.vlr list) (permitted-proper q b.state.control.vlr list) (verdict-right q b.state.control.vlr list) walks)
  where
    walks : verdict_of q b.state.control.vlr list ≡ (Ok tt) → ran_by q list b ≡ ran_through q b
    walks p = ap finished (permitted-straight q (begun b) (fine-bounded b.state.control q accepted).short list p)

    by : (v : Verdict) → (v ≡ (Ok tt)) ↔ Proper (must_precede q b.state.control.vlr) (steps_of q b.state.control.vlr) list
        → Right (must_precede q b.state.control.vlr) (steps_of q b.state.control.vlr) list v
        → (v ≡ (Ok tt) → ran_by q list b ≡ ran_through q b)
        → Claim q list b (number_of (by_verdict b (ran_by q list b) v).answer) (beside_of (by_verdict b (ran_by q list b) v).answer)
        (by_verdict b (ran_by q list b) v).left
    by (Ok tt) iff right same = record {
      permitted = (λ _. iff.0 refl, λ _. refl);
      done = λ _. refl;
      straight = λ _. same refl;
      walked = λ _. refl;
      refused = λ n. absurd (n refl);
      kept = λ n. absurd (n refl);
    }
    by (Err place) iff right same = record {
      permitted = (λ z. absurd (omega arith), λ p. absurd (never place (iff.1 p)));
      done = λ z. absurd (omega arith);
      straight = λ z. absurd (omega arith);
      walked = λ z. absurd (omega arith);
      refused = λ _. (refl, right);
      kept = λ _. refl;
    }
      where
        never : (place : ℕ) → ◌≡◌ {A = Verdict} (Err place) (Ok tt) → ⊥
        never place h = let z : ◌≡◌ {A = ℕ} 0 1 = cc in omega arith

-- so what is walked meets all three promises
pub three-promises : (q : Queue) (list : List ℕ) (b : Marked) (o : Outcome Marked) → o ≡ walked_run q list b
    → (o ≡ ordered_run q list b) × ((o ≡ walked_run q list b) × AcceptedClaim q list b (number_of o.answer) (beside_of o.answer) o.left)
three-promises q list b o e = (e ∙ walked-straight q list b, (e, claim q list b o e))
