-- `somewhere` meets its contract: the sets are joined one after the other. Assumes nothing.
use mathlib.Core.Path.{◌≡◌, ◌∙◌, ap, sym}
use native.Mathlib.Omega.{arith}
use borrow.Author.Rules.{rules}
use lib.Bits.{bit_or}
use lib.ListN.{length}
use lib.Seq.{take-length}
use Rattle.std.specs.List.{fold}
use Rattle.order.proofs.Marking.{somewhere-joins}
use Rattle.order.proofs.somewhere.Goals as goal

pub returns : goal.returns
returns c =
    let sets = c.args.sets.now in
    let joined : c.fold.result ≡ fold bit_or 0 sets = search rules in
    joined ∙ ap (fold bit_or 0) (sym (take-length sets)) ∙ somewhere-joins sets (length sets) (omega arith)
