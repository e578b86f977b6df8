-- `kuj_run_order` meets its contract: the claim of the record is that of the five numbers. Assumes nothing.
use Rattle.std.proofs.Common.{ap}
use Rattle.state.specs.Answer.{answered}
use Rattle.state.specs.Outcome.{Outcome}
use Rattle.kujawian.proofs.Stored.{list-claim}
use Rattle.kujawian.proofs.kuj_run_order.Goals as goal

pub returns-clause-demand : goal.returns-clause-demand
returns-clause-demand c five =
    list-claim _ _ _ (answered c.run_order-after.result) _ _ _ _ _ _ _ five (rw (← ap (λ (o : Outcome _). o.answer) c.settle.ensures) c.give.ensures)
    (ap (λ (o : Outcome _). o.left) c.settle.ensures)
    (rw c.of.ensures at c.run_order-after.ensures.demand)
