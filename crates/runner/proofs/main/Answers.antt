-- `main` is safe: the text lies within the bytes lent. Assumes nothing.
use Rattle.std.proofs.Common.{ℕ, rules}
use lib.ListN.{length-replicate}
use Rattle.listing.proofs.Printing.{printed-within, printed-part}
use Rattle.running.proofs.Texts.{run-text-length}
use Rattle.runner.proofs.main.Goals as goal

pub slice_bounds-text-end : goal.slice_bounds-text-end
slice_bounds-text-end c = search (printed-within, run-text-length, length-replicate {A = ℕ} 25705 0, rules)

pub slice_bounds-write_all-end : goal.slice_bounds-write_all-end
slice_bounds-write_all-end c = search (printed-part, run-text-length, length-replicate {A = ℕ} 25705 0, rules)
