-- The public calls as one: what a caller lends, and what each call gives back and leaves of it. A line says what its call promises
-- (crates/kujawian/src/lib.rt; the last five are crates/listing's, crates/running's and crates/opcodes'), over the definition that the promise cites; the
-- control record stands here as its five numbers, which to C are the same. The floating operations give no number, and have no line.
use Rattle.std.specs.Prelude.{Bool, List, ℕ}
use Rattle.state.specs.declared.Control.{Control}
use Rattle.state.specs.Answer.{Answer, numbers}
use Rattle.state.specs.Marks.{Marked}
use Rattle.state.specs.Outcome.{Outcome, given}
use Rattle.state.specs.State.{State}
use Rattle.control.specs.Moves.{vlr_read, vcr_read, vmr_low_read, vmr_high_read, vaer_read, vpsr_read}
use Rattle.control.specs.Moves.{vlr_written, vcr_written, vmr_low_written, vmr_high_written, vpsr_written}
use Rattle.opcodes.specs.Decoding.{decoded_of}
use Rattle.execute.specs.Execute.{executed_of}
use Rattle.touch.specs.Parts.{Queue}
use Rattle.queue.specs.Queue.{answer_to}
use Rattle.queue.specs.Run.{queue_run, ordered_run}
use Rattle.saved.specs.Save.{saving}
use Rattle.saved.specs.Load.{loading_marked}
use Rattle.kujawian.specs.Face.{control_of, control_into, state_of, marked_of, left, executed, cleared, field_read}
use Rattle.listing.specs.Text.{state_listed, file_listed, answer_listed}
use Rattle.running.specs.Runner.{input_printed}

-- a call, with what it is handed and only reads
pub data Call : Type 0 where
  read_vlr : Call
  read_vcr : Call
  read_vmr_low : Call
  read_vmr_high : Call
  read_vaer : Call
  read_vpsr : Call
  write_vlr : (value : ℕ) → Call
  write_vcr : (value : ℕ) → Call
  write_vmr_low : (value : ℕ) → Call
  write_vmr_high : (value : ℕ) → Call
  write_vpsr : (value : ℕ) → Call
  execute : (opcode cntrl scalar base stride origin : ℕ) → Call
  run : Queue → Call
  run_order : Queue → (list : List ℕ) → Call
  save : Call
  load : (file : List ℕ) → Call
  clear_marks : Call
  reading : (register element kind : ℕ) → Call
  list_state : Call
  list_file : (file : List ℕ) → Call
  list_answer : Answer → Call
  print_run : (input : List ℕ) → Call
  decode : (enabled queued : Bool) → (position opcode cntrl : ℕ) → Call

-- what it may alter: the state, elements and five numbers; the marks beside it; lent bytes, which are an instruction's window, a file to save into, or
-- room for a text; *kind_read and *bits of a reading. What stands beside the number is not among it
pub record Lent : Type 0 where
  pub elements : List ℕ
  pub control : List ℕ
  pub marks : List ℕ
  pub bytes : List ℕ
  pub kind_read : ℕ
  pub bits : ℕ

abbrev pub lent : List ℕ → List ℕ → List ℕ → List ℕ → ℕ → ℕ → Lent
lent elements control marks bytes kind_read bits =
    record { elements = elements; control = control; marks = marks; bytes = bytes; kind_read = kind_read; bits = bits }

-- the state that is lent, and with its marks
abbrev pub lent_state : Lent → State
lent_state l = state_of l.elements l.control

abbrev pub lent_marked : Lent → Marked
lent_marked l = marked_of l.elements l.control l.marks

-- ---- the number, what stands beside it, and what is lent
-- after a call that alters nothing
abbrev pub read_off : Lent → Answer → (ℕ × ℕ) × Lent
read_off l a = (numbers a, l)

-- after one that alters the five numbers
abbrev pub into_control : Lent → (ℕ × ℕ) × Control → (ℕ × ℕ) × Lent
into_control l g = (g.0, lent l.elements (control_into l.control g.1) l.marks l.bytes l.kind_read l.bits)

-- .. the marks
abbrev pub into_marks : Lent → (ℕ × ℕ) × List ℕ → (ℕ × ℕ) × Lent
into_marks l g = (g.0, lent l.elements l.control g.1 l.bytes l.kind_read l.bits)

-- .. the state and the marks
abbrev pub into_state : Lent → (ℕ × ℕ) × List ℕ × List ℕ × List ℕ → (ℕ × ℕ) × Lent
into_state l g = (g.0, lent g.1 g.2 g.3 l.bytes l.kind_read l.bits)

-- .. these and the window
abbrev pub into_window : Lent → (ℕ × ℕ) × List ℕ × List ℕ × List ℕ × List ℕ → (ℕ × ℕ) × Lent
into_window l g = (g.0, lent g.1 g.2 g.3 g.4 l.kind_read l.bits)

-- .. lent bytes
abbrev pub into_bytes : Lent → Outcome (List ℕ) → (ℕ × ℕ) × Lent
into_bytes l o = ((given o).0, lent l.elements l.control l.marks (given o).1 l.kind_read l.bits)

-- .. *kind_read and *bits
abbrev pub into_reading : Lent → (ℕ × ℕ) × ℕ × ℕ → (ℕ × ℕ) × Lent
into_reading l g = (g.0, lent l.elements l.control l.marks l.bytes g.1 g.2)

unfoldable pub called : Call → Lent → (ℕ × ℕ) × Lent
called read_vlr l = read_off l (vlr_read (control_of l.control))
called read_vcr l = read_off l (vcr_read (control_of l.control))
called read_vmr_low l = read_off l (vmr_low_read (control_of l.control))
called read_vmr_high l = read_off l (vmr_high_read (control_of l.control))
called read_vaer l = read_off l (vaer_read (control_of l.control))
called read_vpsr l = read_off l (vpsr_read (control_of l.control))
called (write_vlr value) l = into_control l (given (vlr_written (control_of l.control) value))
called (write_vcr value) l = into_control l (given (vcr_written (control_of l.control) value))
called (write_vmr_low value) l = into_control l (given (vmr_low_written (control_of l.control) value))
called (write_vmr_high value) l = into_control l (given (vmr_high_written (control_of l.control) value))
called (write_vpsr value) l = into_control l (given (vpsr_written (control_of l.control) value))
called (execute opcode cntrl scalar base stride origin) l =
    into_window l (executed l.control (executed_of (lent_marked l) opcode cntrl scalar base stride l.bytes origin))
called (run q) l = into_state l (left l.control (queue_run q (lent_marked l)))
called (run_order q list) l = into_state l (left l.control (ordered_run q list (lent_marked l)))
called save l = into_bytes l (saving (lent_state l) l.bytes)
called (load file) l = into_state l (left l.control (loading_marked file (lent_marked l)))
called clear_marks l = into_marks l cleared
called (reading register element kind) l =
    into_reading l (field_read (lent_state l) register element kind l.kind_read l.bits)
called list_state l = into_bytes l (state_listed (lent_state l) l.bytes)
called (list_file file) l = into_bytes l (file_listed file l.bytes)
called (list_answer answer) l = into_bytes l (answer_listed answer l.bytes)
called (print_run input) l = into_bytes l (input_printed input l.bytes)
called (decode enabled queued position opcode cntrl) l = read_off l (answer_to (decoded_of enabled queued position opcode cntrl))
