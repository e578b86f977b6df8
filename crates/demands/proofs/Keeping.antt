-- A refused call leaves what it was handed: laws of outcomes. Assumes nothing.
use Rattle.std.specs.Prelude.{Ok}
use mathlib.Core.Bool.{Bool, true, false}
use mathlib.Core.Path.{◌≡◌, refl}
use mathlib.Core.List.{List}
use Prim.Native.Nat.{ℕ, ◌≤◌}
use native.Mathlib.Omega.{arith}
use Rattle.numbers.specs.Choice.{pick}
use Rattle.state.specs.declared.Control.{Control}
use Rattle.state.specs.Answer.{Answer, number_of, is_done}
use Rattle.state.specs.Marks.{Marked}
use Rattle.state.specs.Outcome.{Outcome, outcome, after_refusal, refused, refused_state, refused_marked, refused_window}
use Rattle.state.specs.State.{State}

-- ---- the numbers: 0 is what is done, and 1 to 13 are refusals
pub numbered : (a : Answer) → number_of a ≤ 13
numbered a = grind arith

pub zero-done : (a : Answer) → number_of a ≡ 0 → is_done a ≡ true
zero-done a z = grind arith

pub not-done : (a : Answer) → (number_of a ≡ 0 → ⊥) → is_done a ≡ false
not-done a n = grind arith

-- ---- what a refused call leaves
pub record Keeps {A : Type 0} (o : Outcome A) (x : A) : Type 0 where
  pub kept : is_done o.answer ≡ false → o.left ≡ x

-- nothing is said of what is done
pub done-keeps : {A : Type 0} (v : ℕ) (y x : A) → Keeps (outcome (Ok v) y) x
done-keeps v y x = record { kept = λ e. cc }

pub same-keeps : {A : Type 0} (a : Answer) (x : A) → Keeps (outcome a x) x
same-keeps a x = record { kept = λ e. refl }

pub either-keeps : {A : Type 0} (b : Bool) {o p : Outcome A} {x : A} → Keeps o x → Keeps p x → Keeps (pick b o p) x
either-keeps x k m = grind arith

pub refused-keeps : (a : Answer) (c : Control) → Keeps (refused a c) c
unfolding after_refusal
refused-keeps a c = record { kept = λ e. refl }

pub state-keeps : (a : Answer) (s : State) → Keeps (refused_state a s) s
unfolding after_refusal
state-keeps a s = record { kept = λ e. refl }

pub marked-keeps : (a : Answer) (b : Marked) → Keeps (refused_marked a b) b
unfolding after_refusal
marked-keeps a b = record { kept = λ e. refl }

pub window-keeps : (a : Answer) (b : Marked) (w : List ℕ) → Keeps (refused_window a b w) (b, w)
unfolding after_refusal
window-keeps a b w = record { kept = λ e. refl }
