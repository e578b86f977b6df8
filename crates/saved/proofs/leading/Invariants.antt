-- `leading` meets its contract: the k records passed are good. Assumes nothing.
use mathlib.Core.Path.{◌≡◌}
use Prim.Native.Nat.{◌≤◌}
use Rattle.saved.specs.Load.{leading}
use Rattle.saved.proofs.leading.Given as goal

abbrev pub invariant-loop-k : goal.invariant-loop-k
invariant-loop-k l = (l.k ≤ 1029) × (leading l.k l.file ≡ l.k)
