-- `run` meets its contract: a refusal changes nothing, and an accepted queue is run straight through. Assumes nothing.
use Rattle.std.proofs.Common.{rules, refl}
use Rattle.queue.proofs.Calls.{run-refused, run-done}
use Rattle.queue.proofs.Preparing.{program-few, program-runs, begun-short}
use Rattle.queue.proofs.run.Goals as goal

pub returns-in_err-accept : goal.returns-in_err-accept
returns-in_err-accept c = search (run-refused, rules)

pub invariant_of-program : goal.invariant_of-program
invariant_of-program c =
    let l = c.args.elements.now in let m = c.args.marks.now in let a = c.in_ok-accept.ensures in
    record { few = program-few _ l m _ _ a; runs = program-runs _ l m _ _ a }

pub straight-progress-requires : goal.straight-progress-requires
straight-progress-requires c =
    begun-short _ c.args.elements.now c.args.marks.now _ _ c.in_ok-accept.ensures _ c.begin.ensures

pub returns : goal.returns
returns c =
    run-done _ _ _ _ _ c.in_ok-accept.ensures.answered refl _ c.in_ok-accept.ensures.decoded _ _ _ _ _ c.begin.ensures c.end.ensures
    c.straight-progress.ensures
