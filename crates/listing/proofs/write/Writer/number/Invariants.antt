-- `number` meets its contract: writing the digits that are left always comes to the whole. Assumes nothing.
use mathlib.Core.Path.{◌≡◌}
use lib.ListN.{length}
use Rattle.numbers.specs.Over.{over}
use Rattle.listing.specs.Text.{digits}
use Rattle.listing.proofs.write.Writer.number.Given as goal

abbrev pub invariant-loop-left : goal.invariant-loop-left
invariant-loop-left l =
    (over l.self.text.now l.self.at (digits l.base l.left l.rest) ≡ over l.initial.self.text.now l.initial.self.at (digits l.base l.n l.x))
    × (l.self.at ≡ l.initial.self.at) × (length l.self.text.now ≡ length l.initial.self.text.now)
    × (l.self.text.ghost_name ≡ l.initial.self.text.ghost_name)
