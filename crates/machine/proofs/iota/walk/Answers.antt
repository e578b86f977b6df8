-- `walk` meets its contract: the ones of the set that are left are still to be walked. Assumes nothing.
use Rattle.machine.proofs.IotaLaws.{finishes, goes}
use Rattle.machine.proofs.iota.walk.Goals as goal

pub loop-i-preserved : goal.loop-i-preserved
loop-i-preserved c = goes _ _ _ _ _ _ _ c.loop-i.invariant _ _ c.in-Some.ensures.steps _ c.turn.ensures

pub returns : goal.returns
returns c = finishes _ _ _ _ _ _ _ c.loop-i.invariant c.in-None.ensures.steps.0
