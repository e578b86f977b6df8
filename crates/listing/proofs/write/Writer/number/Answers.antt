-- `number` meets its contract: writing the digits that are left always comes to the whole. Assumes nothing.
use mathlib.Core.Path.{refl, ◌∙◌}
use Prim.Native.Nat.{◌+◌, ◌≤◌}
use native.Mathlib.Omega.{arith}
use lib.ListN.{length, length-set}
use Rattle.listing.proofs.Writing.{number-turns, number-ends}
use Rattle.listing.proofs.write.Writer.number.Goals as goal

pub loop-left-preserved : goal.loop-left-preserved
loop-left-preserved c =
    let i = c.loop-left.invariant in
    let room : c.loop-left.self.at + c.loop-left.left ≤ length c.loop-left.self.text.now = omega arith in
    (number-turns _ _ _ _ _ _ _ _ _ _ _ i.0 c.loop-left-test.true room c.digit.ensures (omega arith), i.1, length-set _ _ _ ∙ i.2, i.3)

pub returns : goal.returns
returns c =
    let i = c.loop-left.invariant in number-ends _ _ _ _ _ _ _ _ i.0 c.loop-left-test.false i.1 i.2 i.3 refl refl
