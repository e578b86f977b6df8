-- `fill` meets its contract: after k turns the first k elements are the file's. Assumes nothing.
use mathlib.Core.Path.{◌≡◌}
use Prim.Native.Nat.{◌≤◌}
use Rattle.saved.specs.Load.{elements_in}
use Rattle.saved.proofs.fill.Given as goal

abbrev pub invariant-loop-k : goal.invariant-loop-k
invariant-loop-k l = (l.k ≤ 1024) × (l.elements ≡ elements_in l.k l.file l.initial.elements)
