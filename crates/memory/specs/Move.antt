-- Document 01, "Memory": all are tested before anything is moved; then the operated elements move, in rising order, so that the highest wins.
-- Document 02, "Which elements were written" (Q-3): loads mark the operated elements; a store writes no element, so it marks none.
use Rattle.std.specs.Prelude.{ℕ, ◌+◌, ◌-◌, Bool, List, length, slice_set, Ok, Err}
use Rattle.numbers.specs.Choice.{pick}
use Rattle.numbers.specs.Halves.{with_low}
use Rattle.numbers.specs.Rising.{rising}
use Rattle.state.specs.declared.answer.Refusal.TheVariants.{WindowRefused}
use Rattle.state.specs.Marks.{Marked, marked, also_marked, one_element}
use Rattle.state.specs.Outcome.{Outcome, outcome, refused_window}
use Rattle.state.specs.State.{state, place_of}
use Rattle.state.specs.Elements.{at}
use Rattle.opcodes.specs.declared.Instruction.{Instruction}
use Rattle.memory.specs.Works.{is_store, is_quadword, size_of}
use Rattle.memory.specs.Window.{allowed, number_at, put_at}
use Rattle.opcodes.specs.Masking.{operated}
use Rattle.memory.specs.Address.{Test, Search, address_of, test_of, tested}

-- what a loaded element holds: a quadword is all of it, a longword its low half, and the high half is kept
abbrev pub received : Bool → ℕ → ℕ → ℕ
received quadword old value = pick quadword value (with_low old value)

-- a load of element i, from its place in the window, into Vc, if it is operated on
unfoldable pub load_step : Bool → ℕ → (ℕ → Bool) → (ℕ → ℕ) → List ℕ → ℕ → List ℕ → List ℕ
load_step quadword vc chosen place w i l =
    pick (chosen i) (slice_set l (place_of vc i) (received quadword (at l vc i) (number_at (size_of quadword) w (place i)))) l

-- and its mark
unfoldable pub mark_step : ℕ → (ℕ → Bool) → ℕ → List ℕ → List ℕ
mark_step vc chosen i m = pick (chosen i) (also_marked m vc (one_element i)) m

-- a store of element i of Vc, if it is operated on
unfoldable pub store_step : Bool → ℕ → (ℕ → Bool) → (ℕ → ℕ) → List ℕ → ℕ → List ℕ → List ℕ
store_step quadword vc chosen place l i w = pick (chosen i) (put_at (size_of quadword) w (place i) (at l vc i)) w

-- the elements, the marks and the window after those below n are moved: a store changes the window, a load the operated elements of Vc, which it marks
abbrev pub moves_by : Bool → Bool → ℕ → (ℕ → Bool) → (ℕ → ℕ) → ℕ → List ℕ → List ℕ → List ℕ → List ℕ × List ℕ × List ℕ
moves_by store quadword vc chosen place n l m w =
    pick store
    (l, m, rising (store_step quadword vc chosen place l) n w)
    (rising (load_step quadword vc chosen place w) n l, rising (mark_step vc chosen) n m, w)

-- the control record stays; where an element is bad nothing is moved
abbrev pub unless_bad : Search → Marked → List ℕ → List ℕ × List ℕ × List ℕ → Outcome (Marked × List ℕ)
unless_bad (Ok _) b w x = outcome (Ok 0) (marked (state x.0 b.state.control) x.1, x.2)
unless_bad (Err refused) b w x = refused_window (Err refused) b w

-- all are tested before anything is moved
abbrev pub moved_by : Bool → Bool → ℕ → (ℕ → Bool) → (ℕ → Test) → (ℕ → ℕ) → ℕ → Marked → List ℕ → Outcome (Marked × List ℕ)
moved_by store quadword vc chosen tests place n b w =
    unless_bad (tested chosen tests n) b w (moves_by store quadword vc chosen place n b.state.elements b.marks w)

-- a memory instruction with a base, a stride, a window and its origin. The order of the numbers: 4, then 5 or 6
unfoldable pub moved_of : Marked → Instruction → ℕ → ℕ → List ℕ → ℕ → Outcome (Marked × List ℕ)
moved_of b ins base stride w origin =
    pick (allowed (length w) origin)
    (moved_by (is_store ins.work) (is_quadword ins.work) ins.vc.0
    (operated ins b.state.control)
    (λ i. test_of (size_of (is_quadword ins.work)) origin (origin + length w) (address_of ins base stride b.state.elements i))
    (λ i. address_of ins base stride b.state.elements i - origin)
    b.state.control.vlr
    b
    w)
    (refused_window (Err WindowRefused) b w)
