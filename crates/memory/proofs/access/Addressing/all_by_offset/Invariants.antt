-- `Addressing::all_by_offset` meets its contract: the places below i are filled. Assumes nothing.
use Rattle.std.proofs.Common.{◌≡◌, ℕ, ◌<◌, get_or}
use Rattle.memory.specs.Address.{offset_by}
use Rattle.memory.proofs.access.Addressing.all_by_offset.Given as goal

abbrev pub invariant-loop-i : goal.invariant-loop-i
invariant-loop-i l = (k : ℕ) → k < l.i → get_or l.place-items k 0 ≡ offset_by l.self.base l.elements l.self.vb.0 k
