-- `bind` meets its contract: by the law of a work of one step and that of the others. What is read leaves the writers' sets. Assumes nothing.
use Rattle.std.proofs.Common.{List, ℕ, true, ◌||◌, ap, ◌∙◌}
use Rattle.touch.specs.TablesWorking.{set_if, joined_at}
use Rattle.touch.proofs.Touching.{binds-one, binds-plain}
use Rattle.touch.proofs.Tables.bind.Goals as goal

pub returns-then-in_one_step : goal.returns-then-in_one_step
returns-then-in_one_step c =
    let before-va = c.read-vb.ensures.2 in
    let before-mask = c.read-va.ensures.2 ∙ before-va in
    let after = c.read-mask.ensures.2 ∙ before-mask in
    binds-one c.args.instruction _ _ _ _ c.target-place.ensures.0 _ _ _ _ _ _ _ _ _ _ _ c.reads_vb.ensures c.reads_va.ensures
    c.ignores_moe.ensures c.in_one_step.ensures (c.read-vb.ensures.0, c.read-vb.ensures.1)
    (c.read-va.ensures.0 ∙ ap (λ (l : List ℕ). set_if c.reads_va.result l c.args.instruction.va.0) before-va, c.read-va.ensures.1)
    (c.read-mask.ensures.0 ∙ ap (λ (l : List ℕ). set_if (c.args.instruction.moe || c.ignores_moe.result) l 16) before-mask, c.read-mask.ensures.1)
    (c.join.ensures ∙ ap (λ (l : List ℕ). joined_at true l c.target-place.result c.args.p) after)
    c.if-in_one_step.true _ c.join-then-in_one_step.ensures

pub returns : goal.returns
returns c =
    let before-va = c.read-vb.ensures.2 in
    let before-mask = c.read-va.ensures.2 ∙ before-va in
    let after = c.read-mask.ensures.2 ∙ before-mask in
    binds-plain c.args.instruction _ _ _ _ c.target-place.ensures.0 _ _ _ _ _ _ _ _ _ _ _ c.reads_vb.ensures c.reads_va.ensures
    c.ignores_moe.ensures c.in_one_step.ensures (c.read-vb.ensures.0, c.read-vb.ensures.1)
    (c.read-va.ensures.0 ∙ ap (λ (l : List ℕ). set_if c.reads_va.result l c.args.instruction.va.0) before-va, c.read-va.ensures.1)
    (c.read-mask.ensures.0 ∙ ap (λ (l : List ℕ). set_if (c.args.instruction.moe || c.ignores_moe.result) l 16) before-mask, c.read-mask.ensures.1)
    (c.join.ensures ∙ ap (λ (l : List ℕ). joined_at true l c.target-place.result c.args.p) after)
    c.if-in_one_step.false
