-- A loop that carries the check out, for any steps and any way to mark what has come: `mark y` says whether y is marked. The marks are the entries
-- passed, and the answer is the check's from here on. Assumes nothing.
use mathlib.Core.Path.{◌≡◌, refl, sym, ap, ap₂, ◌∙◌, subst}
use mathlib.Core.Bool.{Bool, true, false, not, ◌&&◌, ◌||◌}
use mathlib.Core.List.{List, [], ◌∷◌}
use Prim.Native.Nat.{ℕ, zero, suc, ◌+◌, ◌<◌, ◌≤◌, zero-le}
use native.Mathlib.Numerals.{add-one}
use lib.Dec.{eqb}
use lib.ListN.{length, get_or, drop, drop_of_length-le}
use lib.Seq.{drop-cons}
use Rattle.numbers.specs.Choice.{pick}
use Rattle.std.specs.Prelude.{Ok, Err}
use Rattle.order.specs.Order.{Verdict, Mem, has, each, ready, ok, check_from, check}
use Rattle.order.proofs.Tests.{has→mem, T_true}
use Rattle.order.proofs.SameCheck.{each_same}

-- the entries before position i, the last one first
unfoldable pub past : List ℕ → ℕ → List ℕ
past l zero = []
past l (suc i) = get_or l i 0 ∷ past l i

module _ (before : ℕ → ℕ → Bool) (steps : List ℕ) where
  -- the test of an entry, on marks
  unfoldable pub may_by : (ℕ → Bool) → ℕ → Bool
  may_by mark x = has x steps && (not (mark x) && each (λ (a : ℕ). not (before a x) || mark a) steps)

  pub record CheckInv (list : List ℕ) (mark : ℕ → Bool) (i : ℕ) : Type 0 where
    pub inside : i ≤ length list
    pub marks : (y : ℕ) → Mem y steps → mark y ≡ has y (past list i)
    pub same : check before steps list ≡ check_from before steps (past list i) i (drop i list)

  pub check-start : (list : List ℕ) (mark : ℕ → Bool) → ((y : ℕ) → Mem y steps → mark y ≡ false) → CheckInv list mark 0
  unfolding past has check
  check-start list mark none = record { inside = zero-le; marks = none; same = refl }

  module _ (list : List ℕ) (mark : ℕ → Bool) (i : ℕ) (inv : CheckInv list mark i) where
    -- the test on marks is the check's
    may-ok : (x : ℕ) → may_by mark x ≡ ok before steps (past list i) x
    unfolding may_by ok ready
    may-ok x = go (has x steps) refl
      where
        go : (b : Bool) → has x steps ≡ b
            → (b && (not (mark x) && each (λ (a : ℕ). not (before a x) || mark a) steps))
            ≡ (b && (not (has x (past list i)) && each (λ (a : ℕ). not (before a x) || has a (past list i)) steps))
        go false e = refl
        go true e =
            ap₂ (λ (m r : Bool). not m && r) (inv.marks x (has→mem x steps (T_true _ e)))
            (each_same _ _ steps (λ a m. ap (λ (b : Bool). not (before a x) || b) (inv.marks a m)))

    -- the check at an entry
    abbrev next : Verdict
    next = check_from before steps (get_or list i 0 ∷ past list i) (suc i) (drop (suc i) list)

    entry : i < length list → check before steps list ≡ pick (may_by mark (get_or list i 0)) next (Err i)
    unfolding check_from
    entry h =
        inv.same ∙ ap (check_from before steps (past list i) i) (drop-cons list i 0 h)
        ∙ ap (λ (b : Bool). pick b next (Err i)) (sym (may-ok (get_or list i 0)))

    pub check-stop : i < length list → may_by mark (get_or list i 0) ≡ false → Err i ≡ check before steps list
    check-stop h e = sym (entry h ∙ ap (λ (b : Bool). pick b next (Err i)) e)

    pub check-on : i < length list → may_by mark (get_or list i 0) ≡ true
        → (mark' : ℕ → Bool) → ((y : ℕ) → Mem y steps → mark' y ≡ (eqb y (get_or list i 0) || mark y))
        → CheckInv list mark' (i + 1)
    unfolding past has
    check-on h e mark' more = subst (CheckInv list mark') (sym (add-one i)) (record {
      inside = h;
      marks = λ y m. more y m ∙ ap (λ (b : Bool). eqb y (get_or list i 0) || b) (inv.marks y m);
      same = entry h ∙ ap (λ (b : Bool). pick b next (Err i)) e;
    })

    -- the check at the end
    pub check-end : length list ≤ i → check before steps list ≡ pick (each mark steps) (Ok tt) (Err i)
    unfolding check_from
    check-end h =
        inv.same ∙ ap (check_from before steps (past list i) i) (drop_of_length-le list h)
        ∙ ap (λ (b : Bool). pick b (Ok tt) (Err i)) (sym (each_same _ _ steps inv.marks))
