-- `Access::test_each` meets its contract: none that was looked at is bad, and its address is kept. Assumes nothing.
use Rattle.std.specs.Prelude.{Ok}
use Rattle.std.proofs.Common.{◌≡◌, length}
use Rattle.numbers.proofs.SetBits.{Walk}
use Rattle.memory.specs.Works.{size_of}
use Rattle.memory.specs.Working.{address_in, tests_at}
use Rattle.memory.proofs.Filling.{Filled}
use Rattle.memory.proofs.Testing.{looks_at}
use Rattle.memory.proofs.access.Access.test_each.Given as goal

abbrev pub invariant-loop-i : goal.invariant-loop-i
invariant-loop-i l =
    Walk (looks_at (tests_at (size_of l.self.quadword) l.self.bytes (address_in l.self.addressing l.elements)))
    l.self.which 64 (Ok tt) l.i-iterator (Ok tt)
    × (length l.addresses ≡ 64)
    × Filled (address_in l.self.addressing l.elements) l.self.which l.i-iterator l.addresses
