-- What a run gathers, by or: it is bound to no order, and nothing adds nothing. And the types that elements recorded, before or after the register's bit joins
-- them. Assumes nothing.
use mathlib.Core.Path.{◌≡◌, refl, sym, ap, ◌∙◌}
use mathlib.Core.Bool.{Bool, true, false, not, ◌||◌, ◌&&◌, or-false}
use mathlib.Core.List.{List}
use Prim.Native.Nat.{ℕ}
use lib.Bits.{bit_or, or_zero_l, or_zero_r, or_self, or_comm}
use lib.Dec.{eqb}
use borrow.Author.Tests.{eqb-true}
use Rattle.numbers.specs.Choice.{pick}
use Rattle.numbers.proofs.BitLaws.{or_assoc, or-none}
use Rattle.state.proofs.Marking.{marks-none, marks-twice, marks-swap}
use Rattle.state.specs.declared.Control.{Control}
use Rattle.state.specs.Marks.{marked}
use Rattle.state.specs.State.{state}
use Rattle.machine.specs.declared.Progress.{Progress}
use Rattle.machine.specs.Run.{Gathered, Added, added, joined, ended, finished, under_way}
use Rattle.machine.specs.Step.{notes}

abbrev gathered : ℕ → Bool → List ℕ → Gathered
gathered v r m = record { vaer = v; recorded = r; marks = m }

each : {v v' : ℕ} {r r' : Bool} {m m' : List ℕ} → v ≡ v' → r ≡ r' → m ≡ m' → gathered v r m ≡ gathered v' r' m'
each e f g = cc

either-assoc : (a b c : Bool) → ((a || b) || c) ≡ (a || (b || c))
either-assoc true b c = refl
either-assoc false b c = refl

either-swap : (a b c : Bool) → ((a || b) || c) ≡ ((a || c) || b)
either-swap true b c = refl
either-swap false true true = refl
either-swap false true false = refl
either-swap false false true = refl
either-swap false false false = refl

-- ---- THE LAW OF WHAT IS GATHERED: two steps may add theirs in either order
pub joined-swap : (g : Gathered) (a b : Added) → joined (joined g a) b ≡ joined (joined g b) a
unfolding joined
joined-swap g a b =
    each
    (or_assoc g.vaer a.notes b.notes ∙ ap (bit_or g.vaer) (or_comm a.notes b.notes) ∙ sym (or_assoc g.vaer b.notes a.notes))
    (either-swap g.recorded (not (eqb a.notes 0)) (not (eqb b.notes 0)))
    (marks-swap g.marks a.register a.wrote b.register b.wrote)

-- nothing adds nothing
pub joined-nothing : (g : Gathered) (register : ℕ) → joined g (added 0 register 0) ≡ g
unfolding joined
joined-nothing g register = each (or_zero_r g.vaer) (or-false g.recorded) (marks-none g.marks register)

-- of two one is something exactly where their or is
pub some_or : (x y : ℕ) → (not (eqb x 0) || not (eqb y 0)) ≡ not (eqb (bit_or x y) 0)
some_or x y = at (eqb x 0) (eqb y 0) ∙ ap not (sym (or-none x y))
  where
    at : (a b : Bool) → (not a || not b) ≡ not (a && b)
    at true b = refl
    at false b = refl

-- two steps of one register add together what both add
pub joined-twice : (g : Gathered) (x y register s t : ℕ)
    → joined (joined g (added x register s)) (added y register t) ≡ joined g (added (bit_or x y) register (bit_or s t))
unfolding joined
joined-twice g x y register s t =
    each
    (or_assoc g.vaer x y)
    (either-assoc g.recorded (not (eqb x 0)) (not (eqb y 0)) ∙ ap (λ (b : Bool). g.recorded || b) (some_or x y))
    (marks-twice g.marks register s t)

-- types gather before or after the register's bit joins them
pub notes-or : (register t u : ℕ) → bit_or (notes register t) (notes register u) ≡ notes register (bit_or t u)
unfolding notes
notes-or r t u = at (eqb t 0) (eqb u 0) refl refl ∙ ap (λ (e : Bool). pick e 0 (bit_or (bit_or t u) r)) (sym (or-none t u))
  where
    twice : bit_or (bit_or t r) (bit_or u r) ≡ bit_or (bit_or t u) r
    twice =
        or_assoc t r (bit_or u r)
        ∙ ap (bit_or t) (ap (bit_or r) (or_comm u r) ∙ sym (or_assoc r r u) ∙ ap (λ (x : ℕ). bit_or x u) (or_self r) ∙ or_comm r u)
        ∙ sym (or_assoc t u r)

    at : (a b : Bool) → eqb t 0 ≡ a → eqb u 0 ≡ b → bit_or (pick a 0 (bit_or t r)) (pick b 0 (bit_or u r)) ≡ pick (a && b) 0 (bit_or (bit_or t u) r)
    at true true e f = refl
    at true false e f = or_zero_l (bit_or u r) ∙ sym (ap (λ (x : ℕ). bit_or x r) (ap (λ (x : ℕ). bit_or x u) (eqb-true t 0 e) ∙ or_zero_l u))
    at false true e f = or_zero_r (bit_or t r) ∙ sym (ap (λ (x : ℕ). bit_or x r) (ap (bit_or t) (eqb-true u 0 f) ∙ or_zero_r t))
    at false false e f = twice

-- ---- the end of a run, from what was noted in it and the lent elements and marks
pub finishes : (l m : List ℕ) (p : Progress) (c : Control) → c ≡ ended p.control p.noted.vaer p.noted.recorded
    → marked (state l c) m ≡ finished (under_way l m p)
finishes l m p c e = ap (λ (d : Control). marked (state l d) m) e
