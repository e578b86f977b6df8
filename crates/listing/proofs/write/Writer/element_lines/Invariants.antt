-- `element_lines` meets its contract: after k turns the lines of the first k elements stand in the text. Assumes nothing.
use Prim.Native.Nat.{◌+◌, ◌≤◌, ◌*◌}
use Rattle.listing.specs.Text.{element_lines}
use Rattle.listing.specs.Working.{Writes}
use Rattle.listing.proofs.write.Writer.element_lines.Given as goal

abbrev pub invariant-loop-k : goal.invariant-loop-k
invariant-loop-k l = (l.k ≤ 1024) × Writes l.initial.self l.self (element_lines l.k l.elements) × (l.self.at ≤ l.initial.self.at + 25 * l.k)
