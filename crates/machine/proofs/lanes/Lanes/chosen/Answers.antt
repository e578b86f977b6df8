-- `chosen` meets its contract: the elements of the set that are left are still to be worked on; all below n are those that `every` works on. Assumes nothing.
use Rattle.std.proofs.Common.{◌∙◌, rules}
use Rattle.numbers.proofs.SetBits.{all-below}
use Rattle.machine.proofs.LaneLoops.{next_walk}
use Rattle.machine.proofs.lanes.Lanes.chosen.Goals as goal

pub loop-i-preserved : goal.loop-i-preserved
loop-i-preserved g c = next_walk _ _ _ _ _ c.loop-i.invariant _ _ _ c.in-Some.ensures.steps (rw (← c.bit-matches.ensures) c.short-types.ensures)

pub returns-then-self-low_bits : goal.returns-then-self-low_bits
returns-then-self-low_bits g c = c.every.ensures ∙ all-below _ _ c.args.self.n c.args.self.which (search rules) (search rules)
