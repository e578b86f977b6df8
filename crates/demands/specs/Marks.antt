-- Document 02, "Which elements were written" (Q-3): "From new marks, handed on unchanged from call to call, a bit is one exactly when, since the last clear,
-- a file was loaded or an accepted instruction wrote that element". Said of any sequence of the public calls, refused ones and those that touch no mark
-- among them, whatever else is lent to each. What an instruction wrote is `wrote` of specs/Written.antt, in which no mark stands.
use Rattle.std.specs.Prelude.{true, false, List, [], ◌∷◌, ◌⊎◌, ◌↔◌, ◌≡◌, ℕ, ◌<◌, length, get_or, take, Ok}
use Rattle.state.specs.Elements.{at}
use Rattle.state.specs.Marks.{Marked, no_marks}
use Rattle.opcodes.specs.declared.Instruction.{Instruction}
use Rattle.opcodes.specs.Decoding.{decoded_of}
use Rattle.machine.specs.Run.{begun}
use Rattle.order.specs.Order.{run as walk}
use Rattle.order.specs.Steps.{position, element}
use Rattle.touch.specs.Parts.{Queue, size, instruction_at}
use Rattle.touch.specs.Touch.{act}
use Rattle.queue.specs.Queue.{straight}
use Rattle.demands.specs.Calls.{Call, Lent, lent, lent_state, lent_marked, called}
use Rattle.demands.specs.Calls.{read_vlr, read_vcr, read_vmr_low, read_vmr_high, read_vaer, read_vpsr, write_vlr, write_vcr, write_vmr_low, write_vmr_high, write_vpsr}
use Rattle.demands.specs.Calls.{execute, run, run_order, save, load, clear_marks, reading, list_state, list_file, list_answer, print_run, decode}
use Rattle.demands.specs.Written.{wrote, step_wrote, mark_of}

-- ---- what one call writes, where it is done
-- of a queue, the instruction at position k wrote element i of register r, with the control record that the ones before it left
abbrev pub QueueWrote : Queue → Marked → ℕ → ℕ → Type 0
QueueWrote q b r i = (k : ℕ) × (k < size q) × (wrote (instruction_at q k) (straight q k (begun b)).control r i ≡ true)

-- of a queue by a list, the step at place j of the list, with the control record that the entries before it left
abbrev pub ListWrote : Queue → List ℕ → Marked → ℕ → ℕ → Type 0
ListWrote q list b r i =
    (j : ℕ) × (j < length list)
    × (step_wrote (instruction_at q (position (get_or list j 0))) (element (get_or list j 0)) (walk (act q) (take j list) (begun b)).control r i ≡ true)

-- the calls by what they do to marks: one instruction, a queue, a queue by a list, a file, a clear, or nothing
pub data Kind : Type 0 where
  instruction : (opcode cntrl : ℕ) → Kind
  queued : Queue → Kind
  listed : Queue → (list : List ℕ) → Kind
  file : Kind
  clear : Kind
  nothing : Kind

abbrev pub kind_of : Call → Kind
kind_of (execute opcode cntrl scalar base stride origin) = instruction opcode cntrl
kind_of (run q) = queued q
kind_of (run_order q list) = listed q list
kind_of (load bytes) = file
kind_of clear_marks = clear
kind_of read_vlr = nothing
kind_of read_vcr = nothing
kind_of read_vmr_low = nothing
kind_of read_vmr_high = nothing
kind_of read_vaer = nothing
kind_of read_vpsr = nothing
kind_of (write_vlr value) = nothing
kind_of (write_vcr value) = nothing
kind_of (write_vmr_low value) = nothing
kind_of (write_vmr_high value) = nothing
kind_of (write_vpsr value) = nothing
kind_of save = nothing
kind_of (reading register e shown) = nothing
kind_of list_state = nothing
kind_of (list_file bytes) = nothing
kind_of (list_answer answer) = nothing
kind_of (print_run input) = nothing
kind_of (decode enabled within place opcode cntrl) = nothing

-- it loads a file, or an instruction of it wrote element i of register r
abbrev pub KindWrote : Kind → Lent → ℕ → ℕ → Type 0
KindWrote (instruction opcode cntrl) l r i =
    (ins : Instruction) × (decoded_of true false 0 opcode cntrl ≡ Ok ins) × (wrote ins (lent_state l).control r i ≡ true)
KindWrote (queued q) l r i = QueueWrote q (lent_marked l) r i
KindWrote (listed q list) l r i = ListWrote q list (lent_marked l) r i
KindWrote file l r i = Unit {0}
KindWrote clear l r i = ⊥
KindWrote nothing l r i = ⊥

-- and the call was accepted
abbrev pub Wrote : Call → Lent → ℕ → ℕ → Type 0
Wrote call l r i = ((called call l).0.0 ≡ 0) × KindWrote (kind_of call) l r i

-- the call is a clear
abbrev pub Clears : Kind → Type 0
Clears (instruction opcode cntrl) = ⊥
Clears (queued q) = ⊥
Clears (listed q list) = ⊥
Clears file = ⊥
Clears clear = Unit {0}
Clears nothing = ⊥

-- ---- one call, on a state of 1,024 elements and sixteen marks
pub record Sized (l : Lent) : Type 0 where
  pub elements : length l.elements ≡ 1024
  pub marks : length l.marks ≡ 16

pub record OneCall (call : Call) (l : Lent) : Type 0 where
  pub sized : Sized (called call l).1
  -- a bit is one after it exactly where it was one or the call wrote the element, and the call is no clear
  pub marks : (r i : ℕ) → r < 16 → i < 64
      → (mark_of (called call l).1.marks r i ≡ true) ↔ ((Clears (kind_of call) → ⊥) × ((mark_of l.marks r i ≡ true) ⊎ Wrote call l r i))
  -- what it did not write is as it was
  pub kept : (r i : ℕ) → r < 16 → i < 64 → (Wrote call l r i → ⊥) → at (called call l).1.elements r i ≡ at l.elements r i

abbrev pub EachCall : Call → Lent → Type 0
EachCall call l = Sized l → OneCall call l

-- ---- any sequence of calls
-- a call, and what is lent to it beside the marks
pub record Turn : Type 0 where
  pub call : Call
  pub lends : Lent

-- with the marks that are handed on to it
abbrev pub handed : Turn → List ℕ → Lent
handed t m = lent t.lends.elements t.lends.control m t.lends.bytes t.lends.kind_read t.lends.bits

abbrev pub marks_after : Turn → List ℕ → List ℕ
marks_after t m = (called t.call (handed t m)).1.marks

unfoldable pub after_all : List Turn → List ℕ → List ℕ
after_all [] m = m
after_all (t ∷ ts) m = after_all ts (marks_after t m)

-- none of them is a clear
abbrev pub NoClear : List Turn → Type 0
NoClear [] = Unit {0}
NoClear (t ∷ ts) = (Clears (kind_of t.call) → ⊥) × NoClear ts

-- the element was written since the last clear: by the first of them, and no later one is a clear; or by a later one (the marks go along because each call
-- is lent them: neither its number nor the control record of a run looks at them)
abbrev pub WrittenSince : List Turn → List ℕ → ℕ → ℕ → Type 0
WrittenSince [] m r i = ⊥
WrittenSince (t ∷ ts) m r i = (Wrote t.call (handed t m) r i × NoClear ts) ⊎ WrittenSince ts (marks_after t m) r i

-- each is lent a state of 1,024 elements
abbrev pub AllSized : List Turn → Type 0
AllSized [] = Unit {0}
AllSized (t ∷ ts) = (length t.lends.elements ≡ 1024) × AllSized ts

-- FROM NEW MARKS a bit is one exactly when the element was written since the last clear
abbrev pub Exactly : List Turn → ℕ → ℕ → Type 0
Exactly ts r i = AllSized ts → r < 16 → i < 64 → (mark_of (after_all ts no_marks) r i ≡ true) ↔ WrittenSince ts no_marks r i

-- ---- what a panel relies on: elements and marks are carried on from call to call, whatever else is lent to each
pub record Carried : Type 0 where
  pub elements : List ℕ
  pub marks : List ℕ

abbrev pub carried : Lent → Carried
carried l = record { elements = l.elements; marks = l.marks }

-- what is lent to a turn that gets them
abbrev pub carrying : Turn → Carried → Lent
carrying t k = lent k.elements t.lends.control k.marks t.lends.bytes t.lends.kind_read t.lends.bits

unfoldable pub chained : List Turn → Carried → Carried
chained [] k = k
chained (t ∷ ts) k = chained ts (carried (called t.call (carrying t k)).1)

-- an element whose mark is zero is as it was before the first of them
abbrev pub Redraw : List Turn → Carried → ℕ → ℕ → Type 0
Redraw ts k r i =
    length k.elements ≡ 1024 → length k.marks ≡ 16 → NoClear ts → r < 16 → i < 64
    → mark_of (chained ts k).marks r i ≡ false
    → at (chained ts k).elements r i ≡ at k.elements r i
