-- Document 01, "Queues and orders": the two calls on a queue, straight through and by a list of steps. specs/Claim.antt says of them what demand 3 asks.
use Rattle.std.specs.Prelude.{List, ℕ, Ok, Err}
use Rattle.numbers.specs.Choice.{pick}
use Rattle.state.specs.declared.answer.Refusal.TheVariants.{OrderRefused}
use Rattle.state.specs.Answer.{is_done}
use Rattle.state.specs.Marks.{Marked}
use Rattle.state.specs.Outcome.{Outcome, outcome, refused_marked}
use Rattle.machine.specs.Run.{begun, finished}
use Rattle.touch.specs.Parts.{Queue, size}
use Rattle.queue.specs.Queue.{acceptance, straight}
use Rattle.touch.specs.Touch.{steps_of, act, must_precede}
use Rattle.order.specs.Order.{Verdict, check, run}

-- the state and the marks after an accepted queue, run straight through; VEN and AEX change only at its end
unfoldable pub ran_through : Queue → Marked → Marked
ran_through q b = finished (straight q (size q) (begun b))

unfoldable pub queue_run : Queue → Marked → Outcome Marked
queue_run q b = pick (is_done (acceptance b.state.control q)) (outcome (Ok 0) (ran_through q b)) (refused_marked (acceptance b.state.control q) b)

-- the list is permitted, or is refused at a position
unfoldable pub verdict_of : Queue → ℕ → List ℕ → Verdict
verdict_of q vlr list = check (must_precede q vlr) (steps_of q vlr) list

-- by a list of an accepted queue, where a permitted one ends in the state and the marks `end`
abbrev pub by_verdict : Marked → Marked → Verdict → Outcome Marked
by_verdict b end (Ok _) = outcome (Ok 0) end
by_verdict b end (Err place) = refused_marked (Err (OrderRefused place)) b

-- the state and the marks after a permitted list: one entry at a time, each step on what the last one left; VEN and AEX change only after its last entry
unfoldable pub ran_by : Queue → List ℕ → Marked → Marked
ran_by q list b = finished (run (act q) list (begun b))

unfoldable pub walked_run : Queue → List ℕ → Marked → Outcome Marked
walked_run q list b =
    pick (is_done (acceptance b.state.control q))
    (by_verdict b (ran_by q list b) (verdict_of q b.state.control.vlr list))
    (refused_marked (acceptance b.state.control q) b)

-- the same with the straight run's state and marks; proofs/DemandThree.antt proves that the two are one
unfoldable pub ordered_run : Queue → List ℕ → Marked → Outcome Marked
ordered_run q list b =
    pick (is_done (acceptance b.state.control q))
    (by_verdict b (ran_through q b) (verdict_of q b.state.control.vlr list))
    (refused_marked (acceptance b.state.control q) b)
