-- DEMAND 3, the theorem `holds`: of any state, any queue that is accepted there and any list. Beside it `run_ends`, of the end of
-- a run, and `empty-queue` and `empty-list`. Assumes nothing.
use native.Mathlib.Omega.{arith}
use Rattle.std.specs.Prelude.{Ok}
use mathlib.Core.Bool.{Bool, true, not}
use mathlib.Core.Path.{◌≡◌, refl, sym, ap, ap₂, ◌∙◌}
use Prim.Native.Nat.{ℕ}
use borrow.Author.Tests.{ne_eqb}
use lib.Bits.{bit_or, or_zero_r}
use lib.Dec.{eqb}
use Rattle.numbers.specs.Bits.{with_bit}
use Rattle.numbers.specs.Choice.{pick}
use Rattle.state.specs.Answer.{is_done}
use Rattle.state.specs.Marks.{Marked}
use Rattle.state.specs.Outcome.{outcome, refused_marked}
use Rattle.state.specs.State.{in_range, enabled}
use Rattle.state.proofs.Ranges.{ranged}
use Rattle.machine.specs.Run.{Run, begun, ended}
use Rattle.order.specs.Order.{each, check_from, check}
use Rattle.order.specs.Steps.{passing}
use Rattle.touch.specs.Parts.{Queue, size}
use Rattle.touch.specs.Touch.{steps_of}
use Rattle.queue.specs.Queue.{positions, acceptance, straight}
use Rattle.queue.specs.Run.{ran_through, queue_run, verdict_of, ordered_run}
use Rattle.queue.proofs.Again.{run-in-range, second_call}
use Rattle.queue.proofs.Calls.{fine-in-range}
use Rattle.queue.proofs.DemandThree.{walked-straight, claim}
use Rattle.demands.specs.Three.{DemandThree, vaer_gets, Ends, RunEnds, EmptyQueue, EmptyList, empty_queue}
use Rattle.demands.proofs.Ending.{RunEnd, ends-run, halts}
use Rattle.demands.proofs.Gathering.{Going, straight-on}

-- DEMAND 3
pub holds : (q : Queue) (b : Marked) → DemandThree q b
holds q b accepted list = claim q list b (ordered_run q list b) (sym (walked-straight q list b)) accepted

-- ---- the end of a run
module _ (q : Queue) (b : Marked) (accepted : is_done (acceptance b.state.control q) ≡ true) where
  abbrev ran : Run
  ran = straight q (size q) (begun b)

  going : Going b.state.control ran
  going = straight-on b.state.control q (size q) (begun b) (record { gathered = refl; vaer = refl; vpsr = refl })

  some : (vaer_gets q b ≡ 0 → ⊥) → ran.gathered.recorded ≡ true
  some n = going.gathered ∙ ap not (ne_eqb (vaer_gets q b) 0 n)

  end-of-run : Ends q b
  unfolding ran_through
  end-of-run = record {
    vaer = end.vaer ∙ ap (λ (v : ℕ). bit_or v (vaer_gets q b)) going.vaer;
    vpsr = end.vpsr
        ∙ ap₂ (λ (t : Bool) (v : ℕ). pick t (with_bit (with_bit v 0 0) 7 1) v) going.gathered going.vpsr
        ∙ halts b.state.control.vpsr (ranged b.state.control (fine-in-range b.state.control q accepted)).vpsr (eqb (vaer_gets q b) 0);
    in-range = run-in-range q b accepted;
    second_call = λ n. second_call q b accepted (some n);
  }
    where
      end : RunEnd ran
      end = ends-run ran

pub run_ends : (q : Queue) (b : Marked) → RunEnds q b
run_ends q b accepted = end-of-run q b accepted

-- ---- nothing to do
module _ (b : Marked) (ranged : in_range b.state.control ≡ true) (on : enabled b.state.control ≡ true) where
  accepts : acceptance b.state.control empty_queue ≡ Ok 0
  unfolding acceptance positions
  accepts = grind arith

  leaves : ran_through empty_queue b ≡ b
  unfolding ran_through straight ended
  leaves = grind (arith, or_zero_r)

  empty : pick (is_done (acceptance b.state.control empty_queue)) (outcome (Ok 0) (ran_through empty_queue b))
      (refused_marked (acceptance b.state.control empty_queue) b)
      ≡ outcome (Ok 0) b
  empty = grind (arith, accepts, leaves)

pub empty-queue : (b : Marked) → EmptyQueue b
unfolding queue_run
empty-queue b ranged on = empty b ranged on

pub empty-list : (b : Marked) → EmptyList b
unfolding ordered_run verdict_of check check_from steps_of passing each
empty-list b ranged on = empty b ranged on
