-- `walk` meets its contract: the ones of the set that are left are still to be walked. Assumes nothing.
use Rattle.machine.proofs.IotaLaws.{Going}
use Rattle.machine.proofs.iota.walk.Given as goal

abbrev pub invariant-loop-i : goal.invariant-loop-i
invariant-loop-i l = Going l.stride l.vc.0 l.which l.initial.elements l.i-iterator l.elements l.next
