-- `one` meets its contract: a compare, or a work that writes the element. Assumes nothing.
use mathlib.Core.Path.{sym, ap, ◌∙◌}
use Prim.Native.Nat.{ℕ}
use Rattle.machine.specs.Run.{run}
use Rattle.machine.specs.Working.{done_for}
use Rattle.machine.proofs.Chosen.{one-done}
use Rattle.machine.proofs.Values.{valued}
use borrow.Author.Rules.{rules}
use Rattle.machine.proofs.instruction.one.Goals as goal

pub returns : goal.returns
returns c =
    let no-mask = sym c.writes_mask.ensures ∙ c.if-writes_mask.false in
    let i = c.args.instruction in
    λ d g r f.
    valued i c.args.scalar c.with_bit-which.result _ d g (rw r (search rules)) (search rules) no-mask c.requires.3 _ c.over-types.result
    c.noted.result
    (rw (r, ← c.matched.ensures) c.over-types.ensures)
    (rw (r, f) c.noted.ensures)
    ∙ ap (λ (x : ℕ). done_for x i c.args.scalar (run c.args.elements.now d g)) c.with_bit-which.ensures
    ∙ one-done _ _ _ _ c.requires.2 c.requires.3
