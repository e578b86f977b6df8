-- Document 01, "Queues and orders": "So after an exception a second call gets 3." A run leaves a state in range, and one that recorded something leaves
-- the processor disabled, by a list too, which ends in the same state. Assumes nothing.
use Rattle.std.specs.Prelude.{Err}
use mathlib.Core.Path.{◌≡◌, refl, ◌∙◌}
use mathlib.Core.Bool.{true}
use Prim.Native.Nat.{ℕ, zero, suc}
use Rattle.numbers.proofs.Tests.{pick_true, pick-false}
use Rattle.state.specs.declared.answer.Refusal.TheVariants.{Disabled, QueueRefused, OutOfRange}
use Rattle.state.specs.Answer.{is_done}
use Rattle.state.specs.Marks.{Marked}
use Rattle.state.specs.State.{in_range, enabled}
use Rattle.state.proofs.Ranges.{ranged, in-range}
use Rattle.machine.specs.Run.{Run, begun}
use Rattle.machine.proofs.Ranged.{InRange, whole-ranged, ended-ranged, ended-disabled}
use Rattle.touch.specs.Parts.{Queue, size, instruction_at, scalar_at}
use Rattle.queue.specs.Queue.{well_formed, positions, acceptance, straight}
use Rattle.queue.specs.Run.{ran_through}
use Rattle.touch.proofs.Steps.{at-below}
use Rattle.queue.proofs.Calls.{fine-in-range}

straight-ranged : (q : Queue) (n : ℕ) (r : Run) → InRange r → InRange (straight q n r)
unfolding straight
straight-ranged q zero r g = g
straight-ranged q (suc n) r g = whole-ranged (instruction_at q n) (scalar_at q n) (at-below q n).vc (straight q n r) (straight-ranged q n r g)

module _ (q : Queue) (b : Marked) (accepted : is_done (acceptance b.state.control q) ≡ true) where
  abbrev ran : Run
  ran = straight q (size q) (begun b)

  ran-ranged : InRange ran
  ran-ranged =
      straight-ranged q (size q) (begun b) (record { control = ranged b.state.control (fine-in-range b.state.control q accepted); gathered = refl })

  pub run-in-range : in_range (ran_through q b).state.control ≡ true
  unfolding ran_through
  run-in-range = in-range (ran_through q b).state.control (ended-ranged ran ran-ranged)

  -- A SECOND CALL, of any queue, where something was recorded in the first
  pub second_call : ran.gathered.recorded ≡ true → (q' : Queue) → well_formed q' ≡ true → acceptance (ran_through q b).state.control q' ≡ (Err Disabled)
  unfolding acceptance ran_through
  second_call e q' w =
      pick_true (in_range (ran_through q b).state.control) _ (Err OutOfRange) run-in-range
      ∙ pick_true (well_formed q') _ (Err QueueRefused) w
      ∙ pick-false (enabled (ran_through q b).state.control) (positions q' (size q')) (Err Disabled) (ended-disabled ran ran-ranged e)
