-- `number_bits` meets its contract: a number hands out its bits, and a NaN has those of the one NaN. Assumes nothing.
use Rattle.std.proofs.Common.{sym, ◌∙◌}
use Rattle.floating.proofs.Signed.{nan-bits}
use Rattle.floating.proofs.read.number_bits.Goals as goal

pub returns-then-is_nan : goal.returns-then-is_nan
returns-then-is_nan c = nan-bits c.args.x (sym c.is_nan.ensures.value ∙ c.if-is_nan.true)
