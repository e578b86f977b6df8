-- `Access::load` meets its contract: the elements of the set that are left are still to be loaded. Assumes nothing.
use Rattle.std.proofs.Common.{◌∙◌}
use Rattle.memory.proofs.Walking.{goes_on}
use Rattle.numbers.proofs.SetBits.{ends-walk}
use Rattle.memory.proofs.Moving.{load_at, loads-ones}
use Rattle.memory.proofs.access.Access.load.Goals as goal

pub loop-i-preserved : goal.loop-i-preserved
unfolding load_at
loop-i-preserved c =
    let one = c.in-Some.ensures.steps in goes_on c.loop-i.invariant one.some one.lowest one.others _ (rw (c.fetched.ensures, c.place-place.ensures))

pub returns : goal.returns
returns c = ends-walk _ _ _ _ _ _ c.loop-i.invariant c.in-None.ensures.steps.0 ∙ loads-ones _ _ _ _ _ _ _
