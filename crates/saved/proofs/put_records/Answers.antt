-- `put_records` meets its contract: after k turns the first k records stand in the file. Assumes nothing.
use mathlib.Core.Path.{◌∙◌}
use native.Mathlib.Omega.{arith}
use borrow.Author.Rules.{rules}
use Rattle.saved.proofs.Saving.{starts, turns, kept, ends}
use Rattle.saved.proofs.put_records.Goals as goal

pub loop-k-init : goal.loop-k-init
loop-k-init c = search (starts, rules)

pub loop-k-preserved : goal.loop-k-preserved
loop-k-preserved c =
    let e = turns _ _ _ _ _ _ (omega arith) c.loop-k.invariant.1.0 c.contents_of.ensures (c.copy_from_slice.ensures.after ∙ c.bytes.ensures) in
    (omega arith, (e, kept _ _ _ _ (omega arith) e))

pub returns : goal.returns
returns c = search (ends, rules)
