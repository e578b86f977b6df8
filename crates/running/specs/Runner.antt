-- The runner: a saved file, then instruction records, run as one queue straight through; the answer and, on 0, the listing of the new state.
use Rattle.std.specs.Prelude.{List, [], ◌++◌, ℕ, ◌/◌, length, take, drop, replicate, Err}
use Rattle.numbers.specs.Choice.{pick}
use Rattle.state.specs.declared.answer.Refusal.TheVariants.{QueueRefused, BadFile}
use Rattle.state.specs.Answer.{is_done}
use Rattle.state.specs.Marks.{Marked, marked, no_marks}
use Rattle.state.specs.Outcome.{Outcome, outcome, refused_state}
use Rattle.state.specs.declared.Control.{Control}
use Rattle.state.specs.State.{State, state}
use Rattle.saved.specs.Load.{accepted, leading, state_in}
use Rattle.queue.specs.Run.{queue_run}
use Rattle.listing.specs.Text.{listing, printed, answer_line}
use Rattle.running.specs.Records.{well_formed, queue_in}

-- the bytes of the file, and exactly those after its 16,464
abbrev pub file_in : List ℕ → List ℕ
file_in input = take 16464 input

abbrev pub records_in : List ℕ → List ℕ
records_in input = drop 16464 input

-- without the marks, which the runner does not show (so any would do to begin with)
abbrev pub unmarked : Outcome Marked → Outcome State
unmarked o = outcome o.answer o.left.state

-- the records on a state: 8 where they are no queue, then the queue's own numbers
unfoldable pub records_run : List ℕ → State → Outcome State
records_run records s =
    pick (well_formed records)
    (unmarked (queue_run (queue_in (length records / 16) records) (marked s no_marks)))
    (refused_state (Err QueueRefused) s)

-- a bad file is 10 with its first bad record; `old` is the state before
unfoldable pub input_run : List ℕ → State → Outcome State
input_run input old =
    pick (accepted (file_in input))
    (records_run (records_in input) (state_in (file_in input)))
    (refused_state (Err (BadFile (leading 1029 (file_in input)))) old)

-- the state before anything is loaded
abbrev pub none : Control
none = record { vlr = 0; vmr = 0; vcr = 0; vaer = 0; vpsr = 0 }

unfoldable pub blank : State
blank = state (replicate 1024 0) none

-- the answer's line, and on 0 the listing of the state
unfoldable pub text_of : Outcome State → List ℕ
text_of o = answer_line o.answer ++ pick (is_done o.answer) (listing o.left) []

-- the text of a run into lent bytes: 25,705 hold every answer's line and a listing
abbrev pub input_printed : List ℕ → List ℕ → Outcome (List ℕ)
input_printed input bytes = printed 25705 (text_of (input_run input blank)) bytes
