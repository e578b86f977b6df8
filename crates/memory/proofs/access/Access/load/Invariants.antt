-- `Access::load` meets its contract: the elements of the set that are left are still to be loaded. Assumes nothing.
use Rattle.std.proofs.Common.{ℕ, get_or}
use Rattle.numbers.proofs.SetBits.{Walk}
use Rattle.memory.proofs.Moving.{load_at}
use Rattle.memory.proofs.access.Access.load.Given as goal

abbrev pub invariant-loop-i : goal.invariant-loop-i
invariant-loop-i l =
    Walk (load_at l.self.quadword l.self.vc.0 (λ (k : ℕ). get_or l.addresses k 0) l.window) l.self.which 64 l.initial.elements l.i-iterator l.elements
