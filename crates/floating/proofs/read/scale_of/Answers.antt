-- `scale_of` meets its contract: the bits are those of a power of two with the sign. Assumes nothing.
use Rattle.std.proofs.Common.{◌+◌, ◌-◌, arith, rules}
use Rattle.floating.specs.Format.{F}
use Rattle.floating.proofs.Double.{scale, no_nan}
use Rattle.floating.proofs.read.scale_of.Goals as goal

pub float_from_bits-result : goal.float_from_bits-result
float_from_bits-result c =
    let a = c.args in
    no_nan (F.bits + F.excess) a.s a.e (a.e + (1023 - (F.bits + F.excess))) c.from.result (search rules) (omega arith) (omega arith)
    (omega arith) (omega arith)

pub returns : goal.returns
returns c =
    let a = c.args in
    scale (F.bits + F.excess) a.s a.e (a.e + (1023 - (F.bits + F.excess))) c.from.result (search rules) (omega arith) (omega arith)
    (omega arith) (omega arith)
