-- What the verdict means, and demand 3: every permitted list of a queue's steps runs to what the queue gives straight through. Assumes nothing.
use Rattle.std.specs.Prelude.{Ok}
use mathlib.Core.Path.{◌≡◌, refl, ◌∙◌}
use mathlib.Core.Logic.{◌↔◌}
use mathlib.Core.List.{List}
use Prim.Native.Nat.{ℕ, ◌≤◌}
use Rattle.machine.specs.Run.{Run}
use Rattle.order.specs.Order.{run, Right, Proper}
use Rattle.order.proofs.Meaning.{own-order, law, check-right, permitted-iff}
use Rattle.touch.specs.Parts.{Queue, size}
use Rattle.touch.specs.Touch.{steps_of, act, must_precede}
use Rattle.touch.proofs.Steps.{step_of, steps-rise, follows-lower}
use Rattle.touch.proofs.Commute.{HasVlr}
use Rattle.touch.proofs.Acts.{act-keeps-vlr, run-keeps-vlr, acts-commute}
use Rattle.queue.specs.Queue.{straight}
use Rattle.queue.specs.Run.{verdict_of}
use Rattle.queue.proofs.Straight.{steps-straight}

-- ---- what the check's answer means

-- A LIST IS PERMITTED exactly where it has every step once and nothing else, and no two that must follow one another in the wrong order
pub permitted-proper : (q : Queue) (vlr : ℕ) (l : List ℕ) → (verdict_of q vlr l ≡ (Ok tt)) ↔ Proper (must_precede q vlr) (steps_of q vlr) l
unfolding verdict_of
permitted-proper q vlr l = permitted-iff (must_precede q vlr) (steps_of q vlr) l

-- THE VERDICT IS RIGHT: it names the first bad entry, or the list's length where steps are missing
pub verdict-right : (q : Queue) (vlr : ℕ) (l : List ℕ) → Right (must_precede q vlr) (steps_of q vlr) l (verdict_of q vlr l)
unfolding verdict_of
verdict-right q vlr l = check-right (must_precede q vlr) (steps_of q vlr) l

module _ (q : Queue) (n : ℕ) (few : n ≤ 64) where
  -- every permitted list runs to what the queue's own order runs to
  pub permitted-same : (l : List ℕ) → verdict_of q n l ≡ (Ok tt) → (r : Run) → HasVlr n r → run (act q) l r ≡ run (act q) (steps_of q n) r
  unfolding verdict_of
  permitted-same l p =
      law (must_precede q n) (steps_of q n) (act q) (HasVlr n)
      (λ x m r h. act-keeps-vlr q n few x (step_of q n x m) r h)
      (λ x y mx my a b r h. acts-commute q n few x y (step_of q n x mx) (step_of q n y my) a b r h)
      l p (own-order (must_precede q n) (steps_of q n) (steps-rise q n) (follows-lower q n))

  own-straight : (r : Run) → HasVlr n r → run (act q) (steps_of q n) r ≡ straight q (size q) r
  own-straight r h = steps-straight q n few r (λ l s. run-keeps-vlr q n few l s r h)

-- DEMAND 3: every permitted list of a queue's steps ends in the same whole state as the queue run straight through
pub permitted-straight : (q : Queue) (r : Run) → r.control.vlr ≤ 64
    → (l : List ℕ) → verdict_of q r.control.vlr l ≡ (Ok tt) → run (act q) l r ≡ straight q (size q) r
permitted-straight q r few l p =
    permitted-same q r.control.vlr few l p r refl ∙ own-straight q r.control.vlr few r refl
