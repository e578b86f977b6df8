-- `run_input` meets its contract: a refused load ends the run, and the records run on a loaded state. Assumes nothing.
use Rattle.std.proofs.Common.{◌≡◌, List, ℕ, Result, Ok, Err, IfOk, take, rules, refl, ap}
use Rattle.state.specs.declared.Control.{Control}
use Rattle.state.specs.declared.answer.Refusal.{Refusal}
use Rattle.state.specs.Answer.{answered}
use Rattle.state.specs.Outcome.{Outcome, outcome, control_left}
use Rattle.state.specs.State.{State, state}
use Rattle.saved.specs.Load.{loading}
use Rattle.running.specs.Runner.{input_run, none}
use Rattle.running.proofs.Queues.{input-ran, input-refused}
use Rattle.running.proofs.run_input.Goals as goal

pub returns-in_err-control : goal.returns-in_err-control
returns-in_err-control c =
    let given : c.from_residual.result ≡ Err c.in_err-control.field-0.0 = search rules in
    let why = c.in_err-control.field-0.0 in
    let loaded : outcome (Err why) (state c.load.new.elements (control_left none (Err why)))
    ≡ loading (take c.file_size-size.result c.args.input.now) (state c.args.elements.now none) = search rules in
    let ran = input-refused _ _ c.file_size-size.ensures.0 _ _ loaded refl in
    rw given (record { answer = ap (λ (o : Outcome State). o.answer) ran; left = tt })

-- what is left of a run is what its outcome leaves, where it is done
module _ (elements : List ℕ) (k : Control) (o : Outcome State) where
  pub done-left : (r : Result Control Refusal) → outcome (answered r) (state elements (control_left k r)) ≡ o → IfOk r (λ c. state elements c ≡ o.left)
  done-left (Ok c) e = ap (λ (x : Outcome State). x.left) e
  done-left (Err why) e = tt

pub returns : goal.returns
returns c =
    let ran : outcome (answered c.run_records.result) (state c.run_records.new.elements (control_left c.in_ok-control.control c.run_records.result))
    ≡ input_run c.args.input.now (state c.args.elements.now none) = search (input-ran, rules) in
    record { answer = ap (λ (o : Outcome State). o.answer) ran; left = done-left _ c.in_ok-control.control _ c.run_records.result ran }
