-- `Access::carry_out` meets its contract. Assumes nothing.
use Rattle.std.proofs.Common.{ℕ, List, sym, ◌∙◌, ap₂, rules}
use Rattle.memory.proofs.Moving.{marks-ones}
use Rattle.memory.proofs.access.Access.carry_out.Goals as goal

pub returns-else-self : goal.returns-else-self
returns-else-self c =
    rw c.if-self.false
    (ap₂ (λ (l m : List ℕ). (l, m, c.args.window.now)) c.load.ensures
    (c.add.ensures ∙ sym (marks-ones c.args.self.vc.0 c.args.self.which 64 c.args.marks.now (search rules))))
