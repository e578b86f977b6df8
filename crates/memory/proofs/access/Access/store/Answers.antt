-- `Access::store` meets its contract: the elements of the set that are left are still to be stored. Assumes nothing.
use Rattle.std.proofs.Common.{◌∙◌, rules}
use Rattle.memory.proofs.Walking.{goes_on}
use Rattle.numbers.proofs.SetBits.{ends-walk}
use Rattle.memory.proofs.Moving.{store_at, stores-ones}
use Rattle.memory.proofs.access.Access.store.Goals as goal

pub loop-i-preserved : goal.loop-i-preserved
unfolding store_at
loop-i-preserved c = let one = c.in-Some.ensures.steps in (
  goes_on c.loop-i.invariant.0 one.some one.lowest one.others _ (rw c.place.ensures at c.put.ensures),
  search rules,
)

pub returns : goal.returns
returns c = ends-walk _ _ _ _ _ _ c.loop-i.invariant.0 c.in-None.ensures.steps.0 ∙ stores-ones _ _ _ _ _ _ _
