-- `Left::iota_comes` meets its contract: of element 0 alone, where it is due over all elements, and it then leaves each set. Assumes nothing.
use mathlib.Core.Path.{sym, ap, ◌∙◌}
use borrow.Author.Rules.{rules}
use Rattle.order.specs.SetsWorking.{somewhere}
use Rattle.order.specs.Steps.{position, element}
use Rattle.order.proofs.Taking.{iota-tested, iota-struck, sentinel-stays}
use Rattle.order.proofs.Left.iota_comes.Goals as goal

pub invariant_of-self : goal.invariant_of-self
invariant_of-self c = record {
  stays = sentinel-stays _ _ _ _ c.requires (iota-struck _ _ c.args.x c.release.ensures.long c.release.ensures.each) c.args.self.now.stays;
}

pub returns : goal.returns
returns c =
    let s = c.args in let joined = c.somewhere.ensures ∙ ap (somewhere s.self.now.sets) (search rules) in
    let tested = iota-tested (element s.x) s.bound _ (position s.x) s.self.now.sets _ c.if-x-ne0.false joined in
    (sym c.if-not-due.false ∙ tested c.due.ensures, λ f. iota-struck _ _ _ c.release.ensures.long c.release.ensures.each)
