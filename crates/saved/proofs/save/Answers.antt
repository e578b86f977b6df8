-- `save` meets its contract: its tests come in the definition's order. Assumes nothing.
use Prim.Native.Nat.{◌<◌}
use native.Mathlib.Omega.{arith}
use lib.ListN.{length}
use Rattle.saved.proofs.Saving.{refused, no_room, written}
use borrow.Author.Rules.{rules}
use Rattle.saved.proofs.save.Goals as goal

pub returns-then-not-in_range : goal.returns-then-not-in_range
returns-then-not-in_range c = search (refused, rules)

pub returns-then-file-lt16464 : goal.returns-then-file-lt16464
returns-then-file-lt16464 c =
    let short : length c.args.file.now < 16464 = omega arith in
    search (no_room, rules)

pub returns : goal.returns
returns c = search (written, rules)
