-- Document 01, "Queues and orders". DEMAND 3, for any state, any queue that is accepted there and any list; the calls by a list promise it themselves
-- (queue::run_order, kuj_run_order). Document 02, Q-3: "Demand 3 now includes the marks". And what is said of a run's end and of an empty queue.
use Rattle.std.specs.Prelude.{true, List, [], ◌≡◌, ℕ, eqb, Ok, Err}
use Rattle.std.specs.Int.Bits.{bit_or}
use Rattle.numbers.specs.Choice.{pick}
use Rattle.state.specs.declared.answer.Refusal.TheVariants.{Disabled}
use Rattle.state.specs.Answer.{number_of, beside_of, is_done}
use Rattle.state.specs.Outcome.{outcome}
use Rattle.state.specs.Marks.{Marked}
use Rattle.state.specs.State.{in_range, enabled}
use Rattle.machine.specs.Run.{begun}
use Rattle.touch.specs.Parts.{Queue, queue, size}
use Rattle.queue.specs.Queue.{well_formed, acceptance, straight}
use Rattle.queue.specs.Run.{ran_through, queue_run, ordered_run}
use Rattle.queue.specs.Claim.{Claim}

-- any list: permitted exactly when it is proper, and then the straight run's whole state and marks; else 9, the position, and nothing has changed
abbrev pub DemandThree : Queue → Marked → Type 0
DemandThree q b =
    is_done (acceptance b.state.control q) ≡ true
    → (list : List ℕ) → Claim q list b (number_of (ordered_run q list b).answer) (beside_of (ordered_run q list b).answer) (ordered_run q list b).left

-- ---- the end of a queue's run
-- what VAER gets in it
abbrev pub vaer_gets : Queue → Marked → ℕ
vaer_gets q b = (straight q (size q) (begun b)).gathered.vaer

pub record Ends (q : Queue) (b : Marked) : Type 0 where
  -- VAER is the or of what was there and of what its steps recorded
  pub vaer : (ran_through q b).state.control.vaer ≡ bit_or b.state.control.vaer (vaer_gets q b)
  -- and if that is anything, VEN is cleared and AEX set
  pub vpsr : (ran_through q b).state.control.vpsr ≡ pick (eqb (vaer_gets q b) 0) b.state.control.vpsr 0x80
  -- the state is in range
  pub in-range : in_range (ran_through q b).state.control ≡ true
  -- "So after an exception a second call gets 3": of any well-formed queue
  pub second_call : (vaer_gets q b ≡ 0 → ⊥) → (q' : Queue) → well_formed q' ≡ true → acceptance (ran_through q b).state.control q' ≡ Err Disabled

abbrev pub RunEnds : Queue → Marked → Type 0
RunEnds q b = is_done (acceptance b.state.control q) ≡ true → Ends q b

-- ---- "An empty queue with VEN set, and with an empty list where one is given, is done and changes nothing."
abbrev pub empty_queue : Queue
empty_queue = queue [] [] []

abbrev pub EmptyQueue : Marked → Type 0
EmptyQueue b = in_range b.state.control ≡ true → enabled b.state.control ≡ true → queue_run empty_queue b ≡ outcome (Ok 0) b

abbrev pub EmptyList : Marked → Type 0
EmptyList b = in_range b.state.control ≡ true → enabled b.state.control ≡ true → ordered_run empty_queue [] b ≡ outcome (Ok 0) b
