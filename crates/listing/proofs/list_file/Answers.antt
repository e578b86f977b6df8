-- `list_file` meets its contract: a loaded state's listing, or the first bad record. Assumes nothing.
use Prim.Native.Nat.{ℕ}
use mathlib.Core.Path.{ap}
use native.Mathlib.Omega.{arith}
use lib.ListN.{length, length-replicate}
use Rattle.listing.proofs.Printing.{no_room, loaded-listed, refused-listed}
use Rattle.listing.proofs.Width.{width-twenty}
use borrow.Author.Rules.{rules}
use Rattle.listing.proofs.list_file.Goals as goal

pub returns-then-text-lt-LISTING_ROOM : goal.returns-then-text-lt-LISTING_ROOM
returns-then-text-lt-LISTING_ROOM c = search (no_room, rules)

pub returns-in-Ok : goal.returns-in-Ok
returns-in-Ok c = search (loaded-listed, length-replicate {A = ℕ} 1024 0, rules)

pub line-requires : goal.line-requires
line-requires c = omega (arith, width-twenty _ _ c.width.ensures, ap length c.new-writer.ensures.bytes)

pub returns-in-Err : goal.returns-in-Err
returns-in-Err c =
    let p = refused-listed _ _ _ _ _ _ c.load.ensures _ _ _ c.if-text-lt-LISTING_ROOM.false c.new-writer.ensures.bytes
    c.new-writer.ensures.place c.in-Err.is c.beside-n.ensures c.width.ensures c.line.ensures in
    search (p, rules)
