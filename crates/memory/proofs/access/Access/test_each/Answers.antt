-- `Access::test_each` meets its contract: none that was looked at is bad, and its address is kept. Assumes nothing.
use Rattle.std.specs.Prelude.{Err}
use Rattle.std.proofs.Common.{◌≡◌, sym, ◌∙◌, arith, length-set, rules}
use Rattle.memory.proofs.Filling.{fills_one}
use Rattle.memory.proofs.Walking.{goes_on}
use Rattle.memory.proofs.Testing.{turn, no_more, bad}
use Rattle.memory.proofs.access.Access.test_each.Goals as goal

pub loop-i-preserved : goal.loop-i-preserved
loop-i-preserved c = let one = c.in-Some.ensures.steps in (
  goes_on c.loop-i.invariant.0 one.some one.lowest one.others _
      (sym c.in_ok-test_one.was ∙ turn _ _ _ _ _ _ c.of_element-address.ensures c.test_one.ensures),
  simp length-set (search rules),
  fills_one _ _ _ _ _ one.lowest one.others c.loop-i.addresses c.of_element-address.result (omega arith) c.loop-i.invariant.2 c.of_element-address.ensures,
)

pub returns-in_err-test_one : goal.returns-in_err-test_one
returns-in_err-test_one c =
    let one = c.in-Some.ensures.steps in
    let e : c.from_residual.result ≡ Err c.in_err-test_one.field-0.0 = search rules in
    rw e
    (bad _ _ _ _ _ (goes_on c.loop-i.invariant.0 one.some one.lowest one.others _
    (sym c.in_err-test_one.was ∙ turn _ _ _ _ _ _ c.of_element-address.ensures c.test_one.ensures)))

pub returns : goal.returns
returns c = no_more _ _ _ _ c.loop-i.invariant.0 c.loop-i.invariant.2 c.in-None.ensures.steps.0
