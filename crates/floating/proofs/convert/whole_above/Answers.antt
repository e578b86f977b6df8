-- `whole_above` meets its contract: the number itself, or 2 ^ 32, which stands for what is moved up by 32 places and more. Assumes nothing.
use Rattle.std.proofs.Common.{◌+◌, ◌-◌, arith}
use Rattle.floating.specs.Format.{F}
use Rattle.floating.proofs.Converting.{stands-huge}
use Rattle.floating.proofs.convert.whole_above.Goals as goal

pub returns-else-e-lt-F_LOW_ZERO : goal.returns-else-e-lt-F_LOW_ZERO
returns-else-e-lt-F_LOW_ZERO c =
    let a = c.args in
    stands-huge a.m (a.e - (F.bits + F.excess)) (omega arith) (omega arith)
