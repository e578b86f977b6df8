-- `Access::all_fine` meets its contract: the elements below the index are fine. Assumes nothing.
use Rattle.std.specs.Prelude.{Ok}
use Rattle.std.proofs.Common.{◌≡◌, ℕ, ◌<◌, true, get_or}
use Rattle.memory.specs.Works.{size_of}
use Rattle.memory.specs.Working.{test_at}
use Rattle.memory.proofs.access.Access.all_fine.Given as goal

abbrev pub invariant-loop-address : goal.invariant-loop-address
invariant-loop-address l = l.all ≡ true → (k : ℕ) → k < l.address-index → test_at (size_of l.self.quadword) l.self.bytes (get_or l.addresses k 0) ≡ Ok tt
