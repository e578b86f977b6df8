-- `run_records` meets its contract. Assumes nothing.
use Rattle.std.proofs.Common.{ℕ, rules}
use lib.ListN.{length-replicate}
use Rattle.running.proofs.Queues.{no-queue, few, part-within, part_length, queue-ran}
use Rattle.running.proofs.run_records.Goals as goal

pub returns-then-not-well_formed : goal.returns-then-not-well_formed
returns-then-not-well_formed c = search (no-queue, rules)

pub take_apart-requires : goal.take_apart-requires
take_apart-requires c = search (few, rules)

pub slice_bounds-opcodes-end : goal.slice_bounds-opcodes-end
slice_bounds-opcodes-end c = search (part-within, length-replicate {A = ℕ} 16 0, rules)

pub slice_bounds-run-end : goal.slice_bounds-run-end
slice_bounds-run-end c = search (part_length, length-replicate {A = ℕ} 16 0, rules)

pub slice_bounds-cntrls-end : goal.slice_bounds-cntrls-end
slice_bounds-cntrls-end c = search (part-within, length-replicate {A = ℕ} 16 0, rules)

pub slice_bounds-run-end-2 : goal.slice_bounds-run-end-2
slice_bounds-run-end-2 c = search (part_length, length-replicate {A = ℕ} 16 0, rules)

pub slice_bounds-scalars-end : goal.slice_bounds-scalars-end
slice_bounds-scalars-end c = search (part-within, length-replicate {A = ℕ} 16 0, rules)

pub slice_bounds-run-end-3 : goal.slice_bounds-run-end-3
slice_bounds-run-end-3 c = search (part_length, length-replicate {A = ℕ} 16 0, rules)

pub returns : goal.returns
returns c =
    let sixteen = length-replicate {A = ℕ} 16 0 in
    queue-ran _ _ c.well_formed-2.ensures c.if-not-well_formed.false _ _ _ _ _ _ _ _ sixteen sixteen sixteen
    c.take_apart.ensures.0 c.take_apart.ensures.1 c.take_apart.ensures.2 c.run.ensures
