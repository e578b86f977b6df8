-- `Left::comes` meets its contract: past the queue's positions, an IOTA, and any other. Assumes nothing.
use mathlib.Core.Path.{refl, sym, ◌∙◌}
use mathlib.Core.Bool.{true}
use native.Mathlib.Omega.{arith}
use borrow.Author.Rules.{rules}
use Rattle.order.proofs.Taking.{refuses, may-not, may-by, not-due, due-taken, sentinel-stays}
use Rattle.order.proofs.Left.comes.Goals as goal

pub returns-then-p-bindings : goal.returns-then-p-bindings
returns-then-p-bindings c = refuses _ (may-not _ _ _ _ _ c.if-p-bindings.true)

pub returns-then-bit : goal.returns-then-bit
returns-then-bit c =
    may-by _ _ _ _ _ _ c.if-p-bindings.false _ true _ c.bit.ensures c.if-bit.true c.iota_comes.ensures

pub returns-then-not-due : goal.returns-then-not-due
returns-then-not-due c =
    let other = sym c.bit.ensures ∙ c.if-bit.false in
    refuses _ (not-due _ _ _ _ _ c.args.bindings.now.few (search rules) c.if-p-bindings.false other _ c.due.ensures c.if-not-due.true)

pub invariant_of-self : goal.invariant_of-self
invariant_of-self c =
    let other = sym c.bit.ensures ∙ c.if-bit.false in let inside = c.if-p-bindings.false in let few = c.args.bindings.now.few in
    record {
      stays = sentinel-stays _ _ _ _ (omega arith)
          ((due-taken _ _ _ _ _ few (search rules) inside other _ c.due.ensures c.if-not-due.false).1 refl) c.args.self.now.stays;
    }

pub returns : goal.returns
returns c =
    let other = sym c.bit.ensures ∙ c.if-bit.false in
    due-taken _ _ _ _ _ c.args.bindings.now.few (search rules) c.if-p-bindings.false other _ c.due.ensures c.if-not-due.false
