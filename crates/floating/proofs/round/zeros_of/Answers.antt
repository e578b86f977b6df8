-- `zeros_of` meets its contract: moved up by its leading zeros a number has 64 digits. Assumes nothing.
use Rattle.std.proofs.Common.{◌<◌, arith}
use Rattle.floating.proofs.Align.{zeros-few, digits_low, digits-high}
use Rattle.floating.proofs.round.zeros_of.Goals as goal

pub returns : goal.returns
returns c =
    let x = c.args.x in
    let hi : x < 18446744073709551616 = omega arith in
    (zeros-few x c.requires hi, digits_low x c.requires hi, digits-high x c.requires hi)
