-- `run_order` meets its contract: the loop binds each position of an accepted queue; a list that is not permitted is refused and nothing has changed; a
-- permitted one is walked, and demand 3 says that its entries end where the straight run ends. Assumes nothing.
use Rattle.std.proofs.Common.{◌≡◌, ℕ, Ok, Err, rules, arith}
use Rattle.state.specs.declared.answer.Refusal.TheVariants.{OrderRefused}
use Rattle.state.specs.Marks.{marked}
use Rattle.state.specs.State.{state}
use Rattle.queue.proofs.Preparing.{prepared-none, prepared-more}
use Rattle.queue.proofs.Preparing.{program-few, program-runs, begun-short}
use Rattle.queue.proofs.Preparing.{listed-refused, listed-few, listed_below, listed-register, check-meets, listed-stopped, listed-inside, listed-done}
use Rattle.queue.proofs.DemandThree.{three-promises}
use Rattle.queue.proofs.run_order.Goals as goal

pub returns-in_err-accept : goal.returns-in_err-accept
returns-in_err-accept c =
    let z = c.args in
    let given : c.from_residual.result ≡ Err c.in_err-accept.field-0.0 = search rules in
    let all =
    three-promises _ z.list.now (marked (state z.elements.now z.control) z.marks.now) _
    (rw given (listed-refused _ z.elements.now z.marks.now _ _ c.in_err-accept.ensures z.list.now)) in
    record { straight = all.0; walked = all.1.0; demand = all.1.1 }

pub loop-k-init : goal.loop-k-init
loop-k-init c = rw (c.new-tables.ensures.0, c.new-tables.ensures.1)
    (prepared-none _ (listed-few _ c.args.elements.now c.args.marks.now _ _ c.in_ok-accept.ensures))

pub bind-requires : goal.bind-requires
bind-requires c =
    let l = c.args.elements.now in let m = c.args.marks.now in let a = c.in_ok-accept.ensures in (
      listed_below _ l m _ _ a c.loop-k.k c.loop-k-test.true,
      omega arith,
      listed-register _ l m _ _ a c.loop-k.k c.loop-k-test.true,
    )

pub loop-k-preserved : goal.loop-k-preserved
loop-k-preserved c =
    prepared-more _ _ _ _ c.loop-k.k c.loop-k.invariant c.loop-k-test.true _
    (c.in_ok-accept.ensures.decoded c.loop-k.k c.loop-k-test.true) _
    c.bind.ensures.0 _ _ c.bind.ensures.1 c.bind.ensures.2

pub check-requires-clause-sizes : goal.check-requires-clause-sizes
check-requires-clause-sizes c =
    (check-meets _ c.args.elements.now c.args.marks.now _ _ c.in_ok-accept.ensures _ _ _ _ c.loop-k.invariant c.loop-k-test.false).0

pub check-requires-clause-earlier : goal.check-requires-clause-earlier
check-requires-clause-earlier c =
    (check-meets _ c.args.elements.now c.args.marks.now _ _ c.in_ok-accept.ensures _ _ _ _ c.loop-k.invariant c.loop-k-test.false).1

pub returns-in_err-map_err : goal.returns-in_err-map_err
returns-in_err-map_err c =
    let z = c.args in
    let stopped : (place : ℕ) × (c.check.result ≡ Err place) × (c.from_residual-in_err-map_err.result ≡ Err (OrderRefused place)) = search rules in
    let all =
    three-promises _ z.list.now (marked (state z.elements.now z.control) z.marks.now) _
    (rw stopped.2
    (listed-stopped _ z.elements.now z.marks.now _ _ c.in_ok-accept.ensures _ _ _ _ c.loop-k.invariant c.loop-k-test.false z.list.now _
    (rw c.iotas.ensures at c.check.ensures) _
    stopped.1)) in
    record { straight = all.0; walked = all.1.0; demand = all.1.1 }

pub invariant_of-program : goal.invariant_of-program
invariant_of-program c =
    let l = c.args.elements.now in let m = c.args.marks.now in let a = c.in_ok-accept.ensures in
    record { few = program-few _ l m _ _ a; runs = program-runs _ l m _ _ a }

pub walk-progress-requires-clause-short : goal.walk-progress-requires-clause-short
walk-progress-requires-clause-short c =
    begun-short _ c.args.elements.now c.args.marks.now _ _ c.in_ok-accept.ensures _ c.begin.ensures

pub walk-progress-requires-clause-positions : goal.walk-progress-requires-clause-positions
walk-progress-requires-clause-positions c =
    let z = c.args in
    let permitted : c.check.result ≡ Ok tt = search rules in
    listed-inside _ z.elements.now z.marks.now _ _ c.in_ok-accept.ensures _ _ _ _ c.loop-k.invariant c.loop-k-test.false z.list.now _
    (rw c.iotas.ensures at c.check.ensures) permitted

pub returns : goal.returns
returns c =
    let z = c.args in
    let permitted : c.check.result ≡ Ok tt = search rules in
    let all =
    three-promises _ z.list.now (marked (state z.elements.now z.control) z.marks.now) _
    (listed-done _ z.elements.now z.marks.now _ _ c.in_ok-accept.ensures _ _ _ _ c.loop-k.invariant c.loop-k-test.false z.list.now _
    (rw c.iotas.ensures at c.check.ensures) permitted _ _ _ _ _
    c.begin.ensures c.end.ensures c.walk-progress.ensures) in
    record { straight = all.0; walked = all.1.0; demand = all.1.1 }
