-- `print_run` meets its contract: the answer's line, then on 0 the listing in what follows it. Assumes nothing.
use Rattle.std.proofs.Common.{◌≡◌, Result, Ok, Err, IfOk, rules, refl, sym, ap, subst, ◌∙◌}
use Rattle.state.specs.declared.Control.{Control}
use Rattle.state.specs.declared.answer.Refusal.{Refusal}
use Rattle.state.specs.Answer.{answered}
use Rattle.state.specs.State.{state}
use Rattle.listing.proofs.Printing.{no_room}
use Rattle.running.specs.Runner.{blank, input_run}
use Rattle.running.proofs.Texts.{at-within, refused-text, ends-within, done-text}
use Rattle.running.proofs.print_run.Goals as goal
use Rattle.running.proofs.print_run.Goals.{In-Ok, In-Err}

pub returns-then-text-lt-TEXT_ROOM : goal.returns-then-text-lt-TEXT_ROOM
returns-then-text-lt-TEXT_ROOM c = search (no_room, rules)

-- what a run that is done answers and leaves
done-answer : (c : In-Ok) → Ok 0 ≡ (input_run c.args.input.now blank).answer
unfolding blank
done-answer c = ap answered (sym c.in-Ok.is) ∙ c.run_input.ensures.answer

leaves : (c : In-Ok) → state c.run_input.new.elements c.in-Ok.control ≡ (input_run c.args.input.now blank).left
unfolding blank
leaves c =
    subst (λ (r : Result Control Refusal). IfOk r (λ k. state c.run_input.new.elements k ≡ (input_run c.args.input.now blank).left)) c.in-Ok.is
    c.run_input.ensures.left

pub slice_bounds-list_state-count : goal.slice_bounds-list_state-count
slice_bounds-list_state-count c =
    let w = (goal.at.slice_bounds-list_state-count c).In-Ok in
    at-within _ _ w.if-text-lt-TEXT_ROOM.false _ _ (done-answer w) (λ d. leaves w) _ _ c.list_answer.ensures _ c.beside-line.ensures

pub slice_bounds-list_state-start : goal.slice_bounds-list_state-start
slice_bounds-list_state-start c =
    let w = (goal.at.slice_bounds-list_state-start c).In-Ok in
    let within = at-within _ _ w.if-text-lt-TEXT_ROOM.false _ _ (done-answer w) (λ d. leaves w) _ _ c.list_answer.ensures _ c.beside-line.ensures in
    search rules

pub overflow_add-result : goal.overflow_add-result
overflow_add-result c =
    let w = (goal.at.overflow_add-result c).In-Ok in
    let fits = ends-within _ _ w.if-text-lt-TEXT_ROOM.false _ _ (done-answer w) (λ d. leaves w) _ _ c.list_answer.ensures _ c.beside-line.ensures refl
    _ _ c.list_state-after.ensures _ c.beside.ensures in
    search rules

pub returns-in-Ok : goal.returns-in-Ok
returns-in-Ok c =
    let w = (goal.at.returns-in-Ok c).In-Ok in
    done-text _ _ w.if-text-lt-TEXT_ROOM.false _ _ (done-answer w) (λ d. leaves w) _ _ c.list_answer.ensures _ c.beside-line.ensures refl
    _ _ c.list_state-after.ensures _ c.beside.ensures

pub returns-in-Err : goal.returns-in-Err
unfolding blank
returns-in-Err c =
    refused-text _ _ c.if-text-lt-TEXT_ROOM.false (Err c.in-Err.refusal) blank (ap answered (sym c.in-Err.is) ∙ c.run_input.ensures.answer) (λ d. cc) _ _
    c.list_answer-in-Err.ensures refl
