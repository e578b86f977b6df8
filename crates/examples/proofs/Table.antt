-- THE TABLE of examples, and the one statement over all of its rows, by computation. Assumes nothing.
use mathlib.Core.Path.{refl}
use mathlib.Core.List.{List, ◌++◌}
use lib.Ieee.{size}
use Rattle.numbers.specs.Signed.{signed, low32, overflows, negative, is_zero}
use Rattle.numbers.specs.Relation.{relation_holds}
use Rattle.numbers.specs.Rising.{rising}
use Rattle.state.specs.State.{in_range}
use Rattle.state.specs.Outcome.{after_refusal}
use Rattle.control.specs.Moves.{read_when, write_when, vpsr_taken}
use Rattle.opcodes.specs.Works.{row_of}
use Rattle.opcodes.specs.Opcodes.{opcode_of}
use Rattle.opcodes.specs.ControlWord.{refused, control_word_of}
use Rattle.opcodes.specs.Decoding.{decoded_of}
use Rattle.opcodes.specs.Masking.{operated}
use Rattle.longword.specs.Longword.{sum_of, difference_of, product_of}
use Rattle.floating.specs.Round.{rounded}
use Rattle.floating.specs.Delivered.{delivered}
use Rattle.element.specs.Receives.{result_of}
use Rattle.machine.specs.Run.{joined, ended}
use Rattle.machine.specs.Step.{received, notes, written, worked, element_step}
use Rattle.machine.specs.Iota.{matching, turned, walked, iota_step}
use Rattle.machine.specs.Instruction.{step_of, steps_below, whole_of, instruction_done}
use Rattle.memory.specs.Window.{allowed}
use Rattle.memory.specs.Address.{test_of, test_step}
use Rattle.memory.specs.Move.{load_step, mark_step, store_step, moved_of}
use Rattle.execute.specs.Execute.{carried_out, executed_of}
use Rattle.order.specs.Steps.{passing}
use Rattle.order.specs.Order.{has, each, ready, ok, check_from, check}
use Rattle.touch.specs.Parts.{instruction_at}
use Rattle.touch.specs.Touch.{is_step, steps_of, below, reads, writes, meet, conflict, must_precede}
use Rattle.queue.specs.Queue.{at_position, positions, acceptance, straight}
use Rattle.queue.specs.Run.{ran_through, verdict_of, queue_run, ordered_run}
use Rattle.saved.specs.File.{contents_of, record_bytes, records, file_of}
use Rattle.saved.specs.Save.{saving}
use Rattle.saved.specs.Load.{contents_in_range, good_part, good_record, leading, accepted, loading, loading_marked}
use Rattle.listing.specs.Text.{digit_of, digits, decimals, width_of, line, element_line, element_text, element_lines, control_lines, listing, bad_line, answer_line}
use Rattle.listing.specs.Text.{listed, printed, state_listed}
use Rattle.running.specs.Runner.{input_run, blank, text_of}
use Rattle.panel.specs.Panel.{field_answer}
use Rattle.kujawian.specs.Face.{control_of, control_into, left, executed, field_read}
use Rattle.demands.specs.Calls.{called}
use Rattle.examples.proofs.Rows.{Row, Holds, both_hold}
use Rattle.examples.proofs.Settled.{settled}
use Rattle.examples.proofs.Works.{opcodes, words}
use Rattle.examples.proofs.Elements.{masks, lengths, iotas, relations, results, exceptions}
use Rattle.examples.proofs.Memory.{windows, elements}
use Rattle.examples.proofs.Controls.{moves, settings, ranges}
use Rattle.examples.proofs.Numbers.{numbers, orders}
use Rattle.examples.proofs.Queues.{queues, lists, touches}
use Rattle.examples.proofs.Marks.{marks_one, marks_many}
use Rattle.examples.proofs.Readings.{readings, files, texts}

-- ---- the further rows, for rules that no example guards
abbrev further : List Row
further =
    -- "Opcodes": each of the 40, with a result of its own; reserved opcodes and control words
    opcodes ++ words
    -- "What an element receives"
    ++ masks ++ lengths ++ iotas ++ relations ++ results ++ exceptions
    -- "Memory"
    ++ windows ++ elements
    -- "Control moves", each setting of VPSR, and "The state"
    ++ moves ++ settings ++ ranges
    -- "Numbers given back": each of 0 to 13, and the order of the tests
    ++ numbers ++ orders
    -- "Queues and orders": queues, faults of a list, and each line of what a step touches
    ++ queues ++ lists ++ touches
    -- document 02, "Which elements were written"
    ++ marks_one ++ marks_many
    -- "Saved state and readings"
    ++ readings

-- and those that go through a whole file or text
abbrev whole : List Row
whole = files ++ texts

-- ---- document 01's twelve and those of the requests, then the further rows
abbrev pub table : List Row
table = (settled ++ further) ++ whole

-- each part by computation; a row that does not hold is found by leaving others out
settled-hold : Holds (settled ++ further)
unfolding called control_of control_into left executed field_read read_when write_when vpsr_taken field_answer in_range after_refusal
    saving loading loading_marked accepted leading good_record good_part contents_in_range
    executed_of carried_out opcode_of decoded_of refused control_word_of row_of
    instruction_done whole_of steps_below step_of element_step operated worked received result_of written joined ended notes iota_step walked turned matching
    sum_of difference_of product_of signed low32 overflows negative is_zero relation_holds delivered rounded size
    moved_of allowed rising test_of test_step load_step mark_step store_step
    queue_run ordered_run acceptance positions at_position ran_through straight instruction_at
    verdict_of check check_from ok ready each has must_precede conflict meet reads writes below steps_of passing is_step
settled-hold = refl

whole-hold : Holds whole
unfolding called control_of control_into left in_range after_refusal saving loading loading_marked accepted leading good_record good_part contents_in_range
    contents_of record_bytes records file_of
    state_listed listed printed listing element_lines element_text element_line control_lines line digits digit_of width_of decimals bad_line answer_line
    input_run blank text_of
whole-hold = refl

pub table-holds : Holds table
table-holds = both_hold (settled ++ further) whole settled-hold whole-hold
