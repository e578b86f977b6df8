-- `Left::start` meets its contract: the loop writes the sets of the elements from VLR on. Assumes nothing.
use mathlib.Core.Path.{◌≡◌}
use Prim.Native.Nat.{ℕ, ◌<◌}
use lib.ListN.{get_or}
use Rattle.order.specs.SetsWorking.{joined, sentinel}
use Rattle.order.proofs.Left.start.Given as goal

abbrev pub invariant-loop-set : goal.invariant-loop-set
invariant-loop-set l = (k : ℕ) → k < l.set-index → get_or l.set-items k 0 ≡ joined l.iotas sentinel
