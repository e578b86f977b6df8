-- A run of instructions under way. Document 01, "Queues and orders": one bit beside the state keeps whether anything was recorded in this run.
-- Document 02, "Which elements were written" (Q-3): "an instruction keeps any marks it is handed and adds its own".
use Rattle.std.specs.Prelude.{Bool, false, not, ◌||◌, List, ℕ, eqb}
use Rattle.std.specs.Int.Bits.{bit_or}
use Rattle.numbers.specs.Choice.{pick}
use Rattle.numbers.specs.Bits.{with_bit}
use Rattle.state.specs.declared.Control.{Control}
use Rattle.state.specs.Marks.{Marked, marked, also_marked}
use Rattle.state.specs.State.{state, with_vaer, with_vpsr}
use Rattle.machine.specs.declared.Noted.{Noted}
use Rattle.machine.specs.declared.Progress.{Progress}

-- ---- what a run gathers, by or, so that no order binds it and no step waits for it: the bits that VAER gets, that one bit, and the marks
pub record Gathered : Type 0 where
  pub vaer : ℕ
  pub recorded : Bool
  pub marks : List ℕ

-- what a step adds to it: bits for VAER, and the elements of a register that it wrote, as a set
pub record Added : Type 0 where
  pub notes : ℕ
  pub register : ℕ
  pub wrote : ℕ

abbrev pub added : ℕ → ℕ → ℕ → Added
added notes register wrote = record { notes = notes; register = register; wrote = wrote }

unfoldable pub joined : Gathered → Added → Gathered
joined g a =
    record {
      vaer = bit_or g.vaer a.notes;
      recorded = g.recorded || not (eqb a.notes 0);
      marks = also_marked g.marks a.register a.wrote;
    }

-- ---- the elements, the control record, and what was gathered so far
pub record Run : Type 0 where
  pub elements : List ℕ
  pub control : Control
  pub gathered : Gathered

abbrev pub run : List ℕ → Control → Gathered → Run
run l c g = record { elements = l; control = c; gathered = g }

-- nothing recorded at the start, and the marks as they were handed over
abbrev pub begun : Marked → Run
begun b = run b.state.elements b.state.control (record { vaer = 0; recorded = false; marks = b.marks })

-- Only now, if anything was recorded, VEN is cleared and AEX set. VAER gets its bits along the way: nothing within a run reads it and or is bound to no
-- order, so what was gathered joins it here, once.
abbrev pub stopped : Bool → Control → Control
stopped recorded c = pick recorded (with_vpsr c (with_bit (with_bit c.vpsr 0 0) 7 1)) c

unfoldable pub ended : Control → ℕ → Bool → Control
ended c vaer recorded = stopped recorded (with_vaer c (bit_or c.vaer vaer))

-- the state at the end of a run, and the marks
abbrev pub finished : Run → Marked
finished r = marked (state r.elements (ended r.control r.gathered.vaer r.gathered.recorded)) r.gathered.marks

-- ---- as the code has it: the elements and the marks are lent, and the rest goes from step to step by value
abbrev pub gathered_in : List ℕ → Noted → Gathered
gathered_in m n = record { vaer = n.vaer; recorded = n.recorded; marks = m }

abbrev pub under_way : List ℕ → List ℕ → Progress → Run
under_way l m p = run l p.control (gathered_in m p.noted)

-- one that begins: under_way l m (starting c) is begun (marked (state l c) m)
abbrev pub starting : Control → Progress
starting c = record { control = c; noted = record { vaer = 0; recorded = false } }
