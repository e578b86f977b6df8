-- `number_of` meets its contract: the significand times a power of two with the sign is exact. Assumes nothing.
use Rattle.std.proofs.Common.{◌+◌, ◌-◌, arith, lit≤}
use Rattle.floating.specs.Format.{F}
use Rattle.floating.proofs.Packing.{F-sound}
use Rattle.floating.proofs.Double.{number_read}
use Rattle.floating.proofs.read.number_of.Goals as goal

pub returns : goal.returns
returns c =
    let s = c.sign_of in let y = c.scale_of in let k = c.exponent_of-e.result in
    number_read F F-sound (lit≤ tt) c.args.word s.result k c.fraction_of-m.result (k + (1074 - (F.bits + F.excess))) y.result (omega arith)
    (omega arith) (omega arith) s.ensures c.exponent_of-e.ensures c.fraction_of-m.ensures y.ensures
