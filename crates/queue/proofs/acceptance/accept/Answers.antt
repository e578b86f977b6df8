-- `accept` meets its contract: the loop passes the positions that decoding accepts, and keeps the instruction of each. Assumes nothing.
use Rattle.std.proofs.Common.{◌≡◌, Err, rules, refl, sym}
use Rattle.queue.proofs.Calls.{stands-bounded}
use Rattle.queue.proofs.Preparing.{decoded-none, decoded-more, accepts-not, accepts-stops, accepts-all}
use Rattle.queue.proofs.acceptance.accept.Goals as goal

pub returns-in_err-stand : goal.returns-in_err-stand
returns-in_err-stand c = search (accepts-not, rules)

pub loop-k-init : goal.loop-k-init
loop-k-init c = decoded-none _ (stands-bounded _ _ _ c.in_ok-stand.ensures refl).lengths _ (search rules)

pub returns-in_err-program : goal.returns-in_err-program
returns-in_err-program c =
    let given : c.from_residual-in_err-program.result ≡ Err c.in_err-program.field-0.0 = search rules in
    rw given
    (accepts-stops _ _ c.in_ok-stand.ensures _ c.loop-k.k c.loop-k.invariant _ c.loop-k-test.true (sym c.in_err-program.ensures))

pub loop-k-preserved : goal.loop-k-preserved
loop-k-preserved c = decoded-more _ _ c.loop-k.k c.loop-k.invariant c.loop-k-test.true _ (search rules)

pub returns : goal.returns
returns c = search (accepts-all, rules)
