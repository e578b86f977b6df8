-- DEMAND 1, the theorem `holds`: every call's number is one of document 01's, and a refused call changes nothing. Assumes nothing.
use Rattle.std.specs.Prelude.{Ok}
use mathlib.Core.Bool.{Bool, ◌&&◌}
use mathlib.Core.List.{List}
use mathlib.Core.Path.{◌≡◌, refl, ap, ◌∙◌}
use Prim.Native.Nat.{ℕ, ◌≤◌}
use native.Mathlib.Omega.{arith}
use Rattle.numbers.specs.Choice.{pick}
use Rattle.numbers.specs.Halves.{low}
use Rattle.state.specs.declared.Control.{Control}
use Rattle.state.specs.Answer.{Answer, numbers}
use Rattle.state.specs.Marks.{Marked}
use Rattle.state.specs.Outcome.{Outcome, given}
use Rattle.state.specs.State.{in_range}
use Rattle.state.specs.Elements.{at}
use Rattle.control.specs.Moves.{vlr_read, vcr_read, vmr_low_read, vmr_high_read, vaer_read, vpsr_read}
use Rattle.control.specs.Moves.{vlr_written, vcr_written, vmr_low_written, vmr_high_written, vpsr_written}
use Rattle.opcodes.specs.Decoding.{decoded_of}
use Rattle.execute.specs.Execute.{executed_of}
use Rattle.queue.specs.Queue.{answer_to}
use Rattle.queue.specs.Run.{queue_run, ordered_run}
use Rattle.saved.specs.Save.{saving}
use Rattle.saved.specs.Load.{loading_marked}
use Rattle.panel.specs.Panel.{is_field, field_answer, kind_shown, bits_shown}
use Rattle.listing.specs.Text.{state_listed, file_listed, answer_listed}
use Rattle.running.specs.Runner.{input_printed}
use Rattle.kujawian.specs.Face.{control_of, control_into, left, executed, field_read}
use Rattle.kujawian.proofs.Stored.{stored_back}
use Rattle.demands.specs.Calls.{Call, Lent, lent, lent_state, lent_marked, read_off, into_control, into_state, into_window, into_bytes, into_reading, called}
use Rattle.demands.specs.Calls.{read_vlr, read_vcr, read_vmr_low, read_vmr_high, read_vaer, read_vpsr, write_vlr, write_vcr, write_vmr_low, write_vmr_high, write_vpsr}
use Rattle.demands.specs.Calls.{execute, run, run_order, save, load, clear_marks, reading, list_state, list_file, list_answer, print_run, decode}
use Rattle.demands.specs.One.{DemandOne}
use Rattle.demands.proofs.Keeping.{numbered, not-done, Keeps}
use Rattle.demands.proofs.CallsKeep.{write_keeps, execute-keeps, run-keeps, order-keeps, save-keeps, load-keeps, print-keeps, list-keeps}

-- what DEMAND 1 says of any answer and of what is lent after it
record Right (l : Lent) (g : (ℕ × ℕ) × Lent) : Type 0 where
  number : g.0.0 ≤ 13
  kept : (g.0.0 ≡ 0 → ⊥) → g.1 ≡ l

-- ---- by what the call may alter
module _ (l : Lent) where
  nothing : (a : Answer) → Right l (read_off l a)
  nothing a = grind arith

  numbers_only : (o : Outcome Control) → Keeps o (control_of l.control) → Right l (into_control l (given o))
  numbers_only o k = record {
    number = numbered o.answer;
    kept = λ n. ap (λ (c : List ℕ). lent l.elements c l.marks l.bytes l.kind_read l.bits)
        (ap (control_into l.control) (k.kept (not-done o.answer n)) ∙ stored_back l.control);
  }

  whole : (o : Outcome Marked) → Keeps o (lent_marked l) → Right l (into_state l (left l.control o))
  unfolding left
  whole o k = record {
    number = numbered o.answer;
    kept = λ n. ap (λ (b : Marked). lent b.state.elements (control_into l.control b.state.control) b.marks l.bytes l.kind_read l.bits)
        (k.kept (not-done o.answer n))
        ∙ ap (λ (c : List ℕ). lent l.elements c l.marks l.bytes l.kind_read l.bits) (stored_back l.control);
  }

  windowed : (o : Outcome (Marked × List ℕ)) → Keeps o (lent_marked l, l.bytes) → Right l (into_window l (executed l.control o))
  unfolding executed
  windowed o k = record {
    number = numbered o.answer;
    kept = λ n. ap (λ (x : Marked × List ℕ). lent x.0.state.elements (control_into l.control x.0.state.control) x.0.marks x.1
        l.kind_read l.bits)
        (k.kept (not-done o.answer n))
        ∙ ap (λ (c : List ℕ). lent l.elements c l.marks l.bytes l.kind_read l.bits) (stored_back l.control);
  }

  bytes : (o : Outcome (List ℕ)) → Keeps o l.bytes → Right l (into_bytes l o)
  bytes o k = grind arith

  field : (register element kind : ℕ) → Right l (into_reading l (field_read (lent_state l) register element kind l.kind_read l.bits))
  unfolding field_read
  field register element kind = by (in_range (control_of l.control) && is_field register element kind)
    where
      by : (t : Bool) → Right l (into_reading l (pick t
          (numbers (Ok 0), kind_shown kind (low (at l.elements register element)), bits_shown kind (low (at l.elements register element)))
          (numbers (field_answer (control_of l.control) register element kind), l.kind_read, l.bits)))
      by t = grind arith

every : (call : Call) (l : Lent) → Right l (called call l)
unfolding called
every read_vlr l = nothing l (vlr_read (control_of l.control))
every read_vcr l = nothing l (vcr_read (control_of l.control))
every read_vmr_low l = nothing l (vmr_low_read (control_of l.control))
every read_vmr_high l = nothing l (vmr_high_read (control_of l.control))
every read_vaer l = nothing l (vaer_read (control_of l.control))
every read_vpsr l = nothing l (vpsr_read (control_of l.control))
every (write_vlr value) l = numbers_only l (vlr_written (control_of l.control) value) (write_keeps _ _ _ _)
every (write_vcr value) l = numbers_only l (vcr_written (control_of l.control) value) (write_keeps _ _ _ _)
every (write_vmr_low value) l = numbers_only l (vmr_low_written (control_of l.control) value) (write_keeps _ _ _ _)
every (write_vmr_high value) l = numbers_only l (vmr_high_written (control_of l.control) value) (write_keeps _ _ _ _)
every (write_vpsr value) l = numbers_only l (vpsr_written (control_of l.control) value) (write_keeps _ _ _ _)
every (execute opcode cntrl scalar base stride origin) l =
    windowed l (executed_of (lent_marked l) opcode cntrl scalar base stride l.bytes origin)
    (execute-keeps (lent_marked l) opcode cntrl scalar base stride l.bytes origin)
every (run q) l = whole l (queue_run q (lent_marked l)) (run-keeps q (lent_marked l))
every (run_order q list) l = whole l (ordered_run q list (lent_marked l)) (order-keeps q list (lent_marked l))
every save l = bytes l (saving (lent_state l) l.bytes) (save-keeps (lent_state l) l.bytes)
every (load file) l = whole l (loading_marked file (lent_marked l)) (load-keeps file (lent_marked l))
every clear_marks l = record { number = omega arith; kept = λ n. absurd (n refl) }
every (reading register element kind) l = field l register element kind
every list_state l = bytes l (state_listed (lent_state l) l.bytes) (list-keeps (lent_state l) l.bytes)
every (list_file file) l = bytes l (file_listed file l.bytes) (print-keeps _ _ l.bytes)
every (list_answer answer) l = bytes l (answer_listed answer l.bytes) (print-keeps _ _ l.bytes)
every (print_run input) l = bytes l (input_printed input l.bytes) (print-keeps _ _ l.bytes)
every (decode enabled queued position opcode cntrl) l = nothing l (answer_to (decoded_of enabled queued position opcode cntrl))

-- DEMAND 1
pub holds : (call : Call) (l : Lent) → DemandOne call l
holds call l = record { number = (every call l).number; kept = (every call l).kept }
