-- `release` meets its contract: the loop takes the position out of each set. Assumes nothing.
use mathlib.Core.Path.{◌≡◌}
use Prim.Native.Nat.{ℕ, ◌<◌, ◌≤◌}
use lib.ListN.{length, get_or}
use Rattle.order.specs.SetsWorking.{parted}
use Rattle.order.proofs.release.Given as goal

abbrev pub invariant-loop-set : goal.invariant-loop-set
invariant-loop-set l = record {
  long : length l.set-items ≡ length l.initial.set-items;
  done : (k : ℕ) → k < l.set-index → get_or l.set-items k 0 ≡ parted (get_or l.initial.set-items k 0) l.p;
  left : (k : ℕ) → l.set-index ≤ k → get_or l.set-items k 0 ≡ get_or l.initial.set-items k 0;
}
