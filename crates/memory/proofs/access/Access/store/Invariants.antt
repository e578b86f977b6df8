-- `Access::store` meets its contract: the elements of the set that are left are still to be stored. Assumes nothing.
use Rattle.std.proofs.Common.{◌≡◌, ℕ, length, get_or}
use Rattle.numbers.proofs.SetBits.{Walk}
use Rattle.memory.proofs.Moving.{store_at}
use Rattle.memory.proofs.access.Access.store.Given as goal

abbrev pub invariant-loop-i : goal.invariant-loop-i
invariant-loop-i l =
    Walk (store_at l.self.quadword l.self.vc.0 (λ (k : ℕ). get_or l.addresses k 0) l.elements) l.self.which 64 l.initial.window l.i-iterator l.window
    × (length l.window ≡ length l.initial.window)
