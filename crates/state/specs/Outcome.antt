-- What a call gives back, and what it leaves. Document 01, "Numbers given back": "A refusal changes no state and no memory."
use Rattle.std.specs.Prelude.{List, ℕ, Result, Ok, Err}
use Rattle.state.specs.declared.Control.{Control}
use Rattle.state.specs.declared.answer.Refusal.{Refusal}
use Rattle.state.specs.Answer.{Answer, numbers, answered}
use Rattle.state.specs.Marks.{Marked, marked}
use Rattle.state.specs.State.{State, state}

-- the answer, and what the call leaves of what it may alter: the control record; the state; the state with its marks; these and a window; or lent bytes
pub record Outcome (A : Type 0) : Type 0 where
  pub answer : Answer
  pub left : A

abbrev pub outcome : {A : Type 0} → Answer → A → Outcome A
outcome a x = record { answer = a; left = x }

-- as C gets it
abbrev pub given : {A : Type 0} → Outcome A → (ℕ × ℕ) × A
given o = (numbers o.answer, o.left)

-- the control record that a refused call leaves: the one it was handed
unfoldable pub after_refusal : Answer → Control → Control
after_refusal a c = c

-- a refused call on a control record
abbrev pub refused : Answer → Control → Outcome Control
refused a c = outcome a (after_refusal a c)

-- on a state: the elements stay
abbrev pub refused_state : Answer → State → Outcome State
refused_state a s = outcome a (state s.elements (after_refusal a s.control))

-- on a state with its marks. Document 02, Q-3: "A refused call changes no mark."
abbrev pub refused_marked : Answer → Marked → Outcome Marked
refused_marked a b = outcome a (marked (refused_state a b.state).left b.marks)

-- on lent bytes, which stay
abbrev pub refused_bytes : Answer → List ℕ → Outcome (List ℕ)
refused_bytes a bytes = outcome a bytes

-- on a state with its marks and a window: its bytes stay
abbrev pub refused_window : Answer → Marked → List ℕ → Outcome (Marked × List ℕ)
refused_window a b w = outcome a ((refused_marked a b).left, w)

-- ---- a call that alters a control record gives the new one, or why it is refused: the record that it leaves, and its answer with it
abbrev pub control_left : Control → Result Control Refusal → Control
control_left c (Ok next) = next
control_left c (Err refusal) = after_refusal (Err refusal) c

abbrev pub ended : Control → Result Control Refusal → Outcome Control
ended c r = outcome (answered r) (control_left c r)
