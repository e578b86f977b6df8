-- What each call keeps where it is refused. Assumes nothing.
use native.Mathlib.Omega.{arith}
use mathlib.Core.Bool.{Bool}
use mathlib.Core.List.{List}
use mathlib.Core.Path.{ap₂}
use Prim.Native.Nat.{ℕ}
use Rattle.numbers.proofs.Tests.{pick-false}
use Rattle.state.specs.declared.Control.{Control}
use Rattle.state.specs.Answer.{is_done}
use Rattle.state.specs.Marks.{Marked, marked, all_marks}
use Rattle.state.specs.State.{State}
use Rattle.control.specs.Moves.{write_when}
use Rattle.opcodes.specs.declared.Instruction.{Instruction}
use Rattle.memory.specs.Move.{moved_of}
use Rattle.memory.proofs.Outcomes.{moved-kept}
use Rattle.execute.specs.Execute.{carried_out, executed_of}
use Rattle.touch.specs.Parts.{Queue}
use Rattle.queue.specs.Run.{queue_run, ordered_run}
use Rattle.saved.specs.Save.{saving}
use Rattle.saved.specs.Load.{accepted, loading, loading_marked}
use Rattle.listing.specs.Text.{printed, state_listed}
use Rattle.demands.proofs.Keeping.{Keeps, done-keeps, same-keeps, either-keeps, refused-keeps, state-keeps, marked-keeps, window-keeps}

pub write_keeps : (allowed accepted : Bool) (c next : Control) → Keeps (write_when allowed accepted c next) c
unfolding write_when
write_keeps allowed accepted c next = grind (arith, either-keeps, done-keeps, refused-keeps)

moved_keeps : (b : Marked) (ins : Instruction) (base stride : ℕ) (w : List ℕ) (origin : ℕ) → Keeps (moved_of b ins base stride w origin) (b, w)
moved_keeps b ins base stride w origin = grind (arith, moved-kept)

pub execute-keeps : (b : Marked) (opcode cntrl scalar base stride : ℕ) (w : List ℕ) (origin : ℕ)
    → Keeps (executed_of b opcode cntrl scalar base stride w origin) (b, w)
unfolding executed_of carried_out
execute-keeps b opcode cntrl scalar base stride w origin = grind (arith, either-keeps, window-keeps, moved_keeps, done-keeps)

pub run-keeps : (q : Queue) (b : Marked) → Keeps (queue_run q b) b
unfolding queue_run
run-keeps q b = grind (arith, either-keeps, done-keeps, marked-keeps)

pub order-keeps : (q : Queue) (list : List ℕ) (b : Marked) → Keeps (ordered_run q list b) b
unfolding ordered_run
order-keeps q list b = grind (arith, either-keeps, marked-keeps, done-keeps)

pub save-keeps : (s : State) (bytes : List ℕ) → Keeps (saving s bytes) bytes
unfolding saving
save-keeps s bytes = grind arith

loading-keeps : (file : List ℕ) (s : State) → Keeps (loading file s) s
unfolding loading
loading-keeps file s = either-keeps (accepted file) (done-keeps 0 _ s) (state-keeps _ s)

pub load-keeps : (file : List ℕ) (b : Marked) → Keeps (loading_marked file b) b
unfolding loading_marked
load-keeps file b = record {
  kept = λ e. ap₂ marked ((loading-keeps file b.state).kept e) (pick-false (is_done (loading file b.state).answer) all_marks b.marks e);
}

pub print-keeps : (room : ℕ) (text bytes : List ℕ) → Keeps (printed room text bytes) bytes
unfolding printed
print-keeps room text bytes = grind arith

pub list-keeps : (s : State) (bytes : List ℕ) → Keeps (state_listed s bytes) bytes
unfolding state_listed
list-keeps s bytes = grind (arith, either-keeps, print-keeps, same-keeps)
