-- `transfer` meets its contract. Assumes nothing.
use Rattle.std.proofs.Common.{length, sym, ◌∙◌, arith}
use Rattle.state.specs.Marks.{marked}
use Rattle.state.specs.State.{state}
use Rattle.memory.proofs.Accessing.{done}
use Rattle.memory.proofs.Windows.{ends-within}
use Rattle.memory.proofs.transfer.Goals as goal

pub invariant_of-access-2-clause-fits : goal.invariant_of-access-2-clause-fits
invariant_of-access-2-clause-fits c =
    let h = ends-within (length c.args.window.now) c.args.origin (sym c.allowed.ensures ∙ c.if-not-allowed.false) in omega arith

pub returns : goal.returns
returns c =
    let args = c.args in
    done (marked (state args.elements.now args.control) args.marks.now) args.instruction args.base args.stride args.window.now args.origin
    (sym c.allowed.ensures ∙ c.if-not-allowed.false) _ (omega arith) (omega arith) _ c.operated.ensures _ _ c.is_store.ensures c.is_quadword.ensures _
    (rw (c.from.ensures, c.from-2.ensures) at c.all_or_none.ensures)
