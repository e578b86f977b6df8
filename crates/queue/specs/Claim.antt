-- Document 01, "Queues and orders". DEMAND 3, as a single claim about a state with its marks, a queue that is accepted there, any list, and what
-- the call by that list gives back and leaves.
use Rattle.std.specs.Prelude.{true, List, Err, ◌↔◌, ◌≡◌, ℕ}
use Rattle.state.specs.Answer.{is_done}
use Rattle.state.specs.Marks.{Marked}
use Rattle.order.specs.Order.{Right, Proper}
use Rattle.touch.specs.Parts.{Queue}
use Rattle.touch.specs.Touch.{steps_of, must_precede}
use Rattle.queue.specs.Queue.{acceptance}
use Rattle.queue.specs.Run.{ran_through, ran_by}

pub record Claim (q : Queue) (list : List ℕ) (b : Marked) (number beside : ℕ) (after : Marked) : Type 0 where
  -- 0 exactly when the list has every step once and nothing else, and conflicting pairs in queue order
  pub permitted : (number ≡ 0) ↔ Proper (must_precede q b.state.control.vlr) (steps_of q b.state.control.vlr) list
  pub done : number ≡ 0 → beside ≡ 0
  -- then the whole state and the marks are those of the straight run, and those of the list's steps, done one after the other
  pub straight : number ≡ 0 → after ≡ ran_through q b
  pub walked : number ≡ 0 → after ≡ ran_by q list b
  -- else 9, with the first entry that is no step, or a repeat, or comes too early; or the list's length where steps are missing
  pub refused : (number ≡ 0 → ⊥) → (number ≡ 9) × Right (must_precede q b.state.control.vlr) (steps_of q b.state.control.vlr) list (Err beside)
  -- and then nothing has changed
  pub kept : (number ≡ 0 → ⊥) → after ≡ b

-- of a queue that is accepted
abbrev pub AcceptedClaim : Queue → List ℕ → Marked → ℕ → ℕ → Marked → Type 0
AcceptedClaim q list b number beside after = is_done (acceptance b.state.control q) ≡ true → Claim q list b number beside after
