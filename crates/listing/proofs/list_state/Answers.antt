-- `list_state` meets its contract: its tests come in the definition's order; then the elements' lines, then the control registers'. Assumes nothing.
use native.Mathlib.Omega.{arith}
use Rattle.listing.proofs.Printing.{lengths, passed, out_of_range_lem, state-no-room, state-listed}
use mathlib.Core.Bool.{not}
use mathlib.Core.Path.{ap}
use lib.ListN.{length}
use borrow.Author.Rules.{rules}
use Rattle.listing.proofs.list_state.Goals as goal

pub returns-then-not-in_range : goal.returns-then-not-in_range
returns-then-not-in_range c = search (out_of_range_lem, rules)

pub returns-then-text-lt-LISTING_ROOM : goal.returns-then-text-lt-LISTING_ROOM
returns-then-text-lt-LISTING_ROOM c = search (state-no-room, passed, rules)

pub control_lines-requires : goal.control_lines-requires
control_lines-requires c =
    let h = lengths _ (passed _ _ c.in_range.ensures (ap not c.if-not-in_range.false)) in
    (h.0, h.1, omega (arith, ap length c.new-writer.ensures.bytes))

pub returns : goal.returns
returns c = search (state-listed, passed, rules)
