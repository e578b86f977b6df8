-- `control_lines` meets its contract: its five lines follow one another. Assumes nothing.
use Prim.Native.Nat.{◌≤◌}
use native.Mathlib.Omega.{arith}
use Rattle.listing.proofs.Width.{width_two}
use Rattle.listing.proofs.Writing.{control-wrote}
use Rattle.listing.proofs.write.Writer.control_lines.Goals as goal
use Rattle.listing.proofs.write.Writer.control_lines.Goals.{After-width, After-width-2}

-- a length takes two digits at most
narrow : (w : After-width) → w.width.result ≤ 2
narrow w = width_two _ _ w.requires.0 w.width.ensures

narrow2 : (w : After-width-2) → w.width-2.result ≤ 2
narrow2 w = width_two _ _ w.requires.1 w.width-2.ensures

pub returns : goal.returns
returns c =
    control-wrote _ _ c.args.control c.requires.0 c.requires.1 c.requires.2
    c.width.ensures c.width-2.ensures
    c.line.ensures c.line-2.ensures c.line-3.ensures c.line-4.ensures c.line-5.ensures

pub line-requires : goal.line-requires
line-requires c = omega (arith, narrow (goal.at.line-requires c).After-width)

pub line-requires-2 : goal.line-requires-2
line-requires-2 c = omega (arith, narrow (goal.at.line-requires-2 c).After-width)

pub line-requires-3 : goal.line-requires-3
line-requires-3 c = omega (arith, narrow (goal.at.line-requires-3 c).After-width, narrow2 (goal.at.line-requires-3 c).After-width-2)

pub line-requires-4 : goal.line-requires-4
line-requires-4 c = omega (arith, narrow (goal.at.line-requires-4 c).After-width, narrow2 (goal.at.line-requires-4 c).After-width-2)

pub line-requires-5 : goal.line-requires-5
line-requires-5 c = omega (arith, narrow (goal.at.line-requires-5 c).After-width, narrow2 (goal.at.line-requires-5 c).After-width-2)
