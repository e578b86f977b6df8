-- `every` meets its contract: the elements from i on were compared, and their bits stand in order. Assumes nothing.
use Rattle.machine.specs.Working.{compared_at, odd_from}
use Prim.Native.Nat.{◌-◌, ◌/◌}
use mathlib.Core.Path.{◌≡◌}
use Rattle.machine.proofs.mask.Compares.every.Given as goal

abbrev pub invariant-loop-i : goal.invariant-loop-i
invariant-loop-i g l =
    let i = l.self.instruction in
    (l.found ≡ odd_from (λ k. (compared_at l.work l.relation i.scalar i l.self.scalar l.elements k).value) l.i (l.n - l.i))
    × (l.refused ≡ odd_from (λ k. (compared_at l.work l.relation i.scalar i l.self.scalar l.elements k).types / 4) l.i (l.n - l.i))
