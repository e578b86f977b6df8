-- The state as C hands it over: 1,024 numbers, element e of register r at r*64+e, the control record as five numbers, and the marks as sixteen. (The
-- control writes take the record itself: their promises are control/specs/Moves.antt's own.)
-- Document 01, "Numbers given back": a call returns the number; what stands beside it goes to *beside.
use Rattle.std.specs.Prelude.{◌&&◌, List, ℕ, get_or, set, Ok}
use Rattle.numbers.specs.Choice.{pick}
use Rattle.numbers.specs.Halves.{low}
use Rattle.state.specs.declared.Control.{Control}
use Rattle.state.specs.Answer.{numbers}
use Rattle.state.specs.Marks.{Marked, marked, no_marks}
use Rattle.state.specs.Outcome.{Outcome}
use Rattle.state.specs.State.{State, state, in_range}
use Rattle.state.specs.Elements.{at}
use Rattle.panel.specs.Panel.{is_field, field_answer, kind_shown, bits_shown}

-- the control record of five numbers, in the order of the saved records
unfoldable pub control_of : List ℕ → Control
control_of l = record { vlr = get_or l 0 0; vmr = get_or l 1 0; vcr = get_or l 2 0; vaer = get_or l 3 0; vpsr = get_or l 4 0 }

-- the five numbers after a control record was stored there
unfoldable pub control_into : List ℕ → Control → List ℕ
control_into l c = set (set (set (set (set l 0 c.vlr) 1 c.vmr) 2 c.vcr) 3 c.vaer) 4 c.vpsr

abbrev pub state_of : List ℕ → List ℕ → State
state_of elements control = state elements (control_of control)

abbrev pub marked_of : List ℕ → List ℕ → List ℕ → Marked
marked_of elements control marks = marked (state_of elements control) marks

-- what a call that alters the state gives back, and the elements, the five numbers and the marks after it
unfoldable pub left : List ℕ → Outcome Marked → (ℕ × ℕ) × List ℕ × List ℕ × List ℕ
left control o = (numbers o.answer, o.left.state.elements, control_into control o.left.state.control, o.left.marks)

-- the same of one instruction, and the window after it
unfoldable pub executed : List ℕ → Outcome (Marked × List ℕ) → (ℕ × ℕ) × List ℕ × List ℕ × List ℕ × List ℕ
executed control o =
    (numbers o.answer, o.left.0.state.elements, control_into control o.left.0.state.control, o.left.0.marks, o.left.1)

-- what clearing the marks gives back, and the marks after it. Document 02, "Which elements were written" (Q-3): "Clearing is a call of its own"
abbrev pub cleared : (ℕ × ℕ) × List ℕ
cleared = (numbers (Ok 0), no_marks)

-- what a reading gives back, and *kind_read and *bits after it: a refused one leaves them as they were
unfoldable pub field_read : State → ℕ → ℕ → ℕ → ℕ → ℕ → (ℕ × ℕ) × ℕ × ℕ
field_read s register element kind kind_before bits_before =
    pick (in_range s.control && is_field register element kind)
    (numbers (Ok 0), kind_shown kind (low (at s.elements register element)), bits_shown kind (low (at s.elements register element)))
    (numbers (field_answer s.control register element kind), kind_before, bits_before)
