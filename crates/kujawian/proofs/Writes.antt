-- A control write on the record that C lends: what a call that stores what was done, and nothing else, gives back and leaves. Assumes nothing.
use Rattle.std.proofs.Common.{◌≡◌, ℕ, Bool, true, false, Result, Ok, Err, refl, sym, ap, ◌∙◌}
use Rattle.state.specs.declared.Control.{Control}
use Rattle.state.specs.declared.answer.Refusal.{Refusal}
use Rattle.state.specs.declared.answer.Refusal.TheVariants.{Disabled, ValueRefused, OutOfRange}
use Rattle.state.specs.Answer.{Answer, numbers, is_done}
use Rattle.numbers.specs.Choice.{pick}
use Rattle.state.specs.Outcome.{Outcome, outcome, given, refused, after_refusal, ended}
use Rattle.state.specs.State.{in_range}
use Rattle.control.specs.Moves.{write_when}

-- what was not done leaves the record that was handed over
kept : (ranged allowed accepted : Bool) (c next : Control) (a : Answer) (after : Control)
    → outcome a after ≡ pick ranged (pick allowed (pick accepted (outcome (Ok 0) next) (refused (Err ValueRefused) c)) (refused (Err Disabled) c))
    (refused (Err OutOfRange) c)
    → is_done a ≡ false → c ≡ after
unfolding after_refusal
kept true true true c next a after e r = let z : true ≡ false = ap (λ (o : Outcome Control). is_done o.answer) (sym e) ∙ r in cc
kept true true false c next a after e r = sym (ap (λ (o : Outcome Control). o.left) e)
kept true false accepted c next a after e r = sym (ap (λ (o : Outcome Control). o.left) e)
kept false allowed accepted c next a after e r = sym (ap (λ (o : Outcome Control). o.left) e)

-- `a` and `after` are what the write by value gave, `n` the number and what stands beside it, and `left` the lent record afterwards
module _ (allowed accepted : Bool) (c next : Control) (a : Answer) (after : Control) (n : ℕ × ℕ) (left : Control) where
  pub written-done : outcome a after ≡ write_when allowed accepted c next → n ≡ numbers a → left ≡ after
      → (n, left) ≡ given (write_when allowed accepted c next)
  written-done e told is = rw (told, is) (ap given e)

  -- a refusal stored nothing
  pub written-refused : (done : Bool) → outcome a after ≡ write_when allowed accepted c next → n ≡ numbers a → done ≡ is_done a → done ≡ false → left ≡ c
      → (n, left) ≡ given (write_when allowed accepted c next)
  unfolding write_when
  written-refused done e told test refused is =
      rw (told, is ∙ kept (in_range c) allowed accepted c next a after e (sym test ∙ refused)) (ap given e)

-- the five writes: `after` is what the write by value gave. Settled in the lent record it gave the answer `a` and left `left`; `n` is the answer's number with
-- what stands beside it
pub written : (allowed accepted : Bool) (c next : Control) (after : Result Control Refusal) (a : Answer) (n : ℕ × ℕ) (left : Control)
    → ended c after ≡ write_when allowed accepted c next → outcome a left ≡ ended c after → n ≡ numbers a
    → (n, left) ≡ given (write_when allowed accepted c next)
unfolding after_refusal
written allowed accepted c next (Ok x) a n left e settled told =
    let answers : a ≡ Ok 0 = ap (λ (o : Outcome Control). o.answer) settled in
    let leaves : left ≡ x = ap (λ (o : Outcome Control). o.left) settled in
    written-done allowed accepted c next (Ok 0) x n left e (told ∙ ap numbers answers) leaves
written allowed accepted c next (Err refusal) a n left e settled told =
    let answers : a ≡ Err refusal = ap (λ (o : Outcome Control). o.answer) settled in
    let leaves : left ≡ c = ap (λ (o : Outcome Control). o.left) settled in
    written-refused allowed accepted c next (Err refusal) c n left false e (told ∙ ap numbers answers) refl refl leaves
