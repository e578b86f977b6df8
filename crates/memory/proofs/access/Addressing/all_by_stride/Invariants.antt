-- `Addressing::all_by_stride` meets its contract: the places below the index are filled, and the next address is at hand. Assumes nothing.
use Rattle.std.proofs.Common.{◌≡◌, ℕ, ◌<◌, length, get_or}
use Rattle.memory.specs.Address.{strided}
use Rattle.memory.proofs.access.Addressing.all_by_stride.Given as goal

abbrev pub invariant-loop-place : goal.invariant-loop-place
invariant-loop-place l = (length l.place-items ≡ l.n)
    × (l.address ≡ strided l.self.base l.self.stride l.place-index)
    × ((k : ℕ) → k < l.place-index → get_or l.place-items k 0 ≡ strided l.self.base l.self.stride k)
