-- `put_records` meets its contract: after k turns the first k records stand in the file. Assumes nothing.
use mathlib.Core.Path.{◌≡◌}
use Prim.Native.Nat.{◌≤◌}
use lib.ListN.{length}
use Rattle.numbers.specs.Over.{over}
use Rattle.state.specs.State.{state}
use Rattle.saved.specs.File.{records}
use Rattle.saved.proofs.put_records.Given as goal

abbrev pub invariant-loop-k : goal.invariant-loop-k
invariant-loop-k l = (l.k ≤ 1029)
    × ((l.file ≡ over l.initial.file 0 (records l.k (state l.elements l.control))) × (length l.file ≡ length l.initial.file))
