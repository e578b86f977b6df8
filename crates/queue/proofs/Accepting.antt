-- The acceptance of a queue, as the code walks through it. Assumes nothing.
use Rattle.std.specs.Prelude.{Ok, Err}
use mathlib.Core.Path.{◌≡◌, refl, sym, ap, ◌∙◌}
use mathlib.Core.Bool.{Bool, true, false, not, ◌&&◌}
use Prim.Native.Nat.{ℕ, zero, suc, ◌+◌, ◌<◌, ◌≤◌}
use native.Mathlib.Omega.{arith}
use native.Mathlib.Numerals.{add-one}
use native.Mathlib.Decide.{ℕ_discrete}
use borrow.Author.Tests.{not-true, not-false, leb-true, eqb-true}
use lib.Dec.{leb, eqb}
use lib.ListN.{length}
use Rattle.numbers.specs.Choice.{pick}
use Rattle.state.specs.declared.Control.{Control}
use Rattle.state.specs.declared.answer.Refusal.{Refusal}
use Rattle.state.specs.declared.answer.Refusal.TheVariants.{Disabled, QueueRefused, OutOfRange}
use Rattle.state.specs.Answer.{Answer, is_done}
use Rattle.state.specs.State.{in_range, enabled}
use Rattle.opcodes.specs.declared.Instruction.{Instruction}
use Rattle.order.proofs.Tests.{both}
use Rattle.touch.specs.Parts.{Queue, size, decoded_in}
use Rattle.queue.specs.Queue.{well_formed, answer_to, at_position, positions, acceptance}
use Rattle.queue.specs.CallsWorking.{standing}

-- ---- the positions, from 0 on
module _ (q : Queue) where
  -- nothing is looked at past a refusal
  kept : (m n : ℕ) → is_done (positions q n) ≡ false → positions q m ≡ positions q n → positions q (suc m) ≡ positions q n
  unfolding positions
  kept m n e same = ap (λ (t : Bool). pick t (at_position q m) (positions q m)) (ap is_done same ∙ e) ∙ same

  stays : (m n : ℕ) → n ≤ m → is_done (positions q n) ≡ false → positions q m ≡ positions q n
  stays zero n h e = ap (positions q) (zero_is h)
    where
      zero_is : n ≤ 0 → 0 ≡ n
      zero_is g = omega arith
  stays (suc m) n h e = go (ℕ_discrete n (suc m)) (λ g. kept m n e (stays m n g e))
    where
      go : Dec (n ≡ suc m) → (n ≤ m → positions q (suc m) ≡ positions q n) → positions q (suc m) ≡ positions q n
      go (yes s) f = ap (positions q) (sym s)
      go (no s) f = f (omega arith)

  next : (k : ℕ) → positions q k ≡ Ok 0 → positions q (suc k) ≡ at_position q k
  unfolding positions
  next k e = ap (λ (a : Answer). pick (is_done a) (at_position q k) a) e

  pub position-stops : (k : ℕ) (why : Refusal) → positions q k ≡ Ok 0 → k < size q → decoded_in q k ≡ Err why → Err why ≡ positions q (size q)
  unfolding at_position
  position-stops k why e h d =
      let here = next k e ∙ ap answer_to d in
      sym (stays (size q) (suc k) h (ap is_done here) ∙ here)

  pub position-passes : (k : ℕ) (i : Instruction) → positions q k ≡ Ok 0 → decoded_in q k ≡ Ok i → positions q (k + 1) ≡ Ok 0
  unfolding at_position
  position-passes k i e d = ap (positions q) (add-one k) ∙ next k e ∙ ap answer_to d

  pub position-last : (k : ℕ) → positions q k ≡ Ok 0 → k ≤ size q → size q ≤ k → Ok 0 ≡ positions q (size q)
  position-last k e h g = sym (ap (positions q) same ∙ e)
    where
      same : size q ≡ k
      same = omega arith

  -- ---- the tests before them: a, b and e are what they said
  module _ (c : Control) where
    module _ (a : Bool) (ranged : a ≡ in_range c) where
      pub refused-12 : not a ≡ true → (Err OutOfRange) ≡ standing c q
      unfolding standing
      refused-12 out = rw (sym ranged ∙ not-true a out)

      module _ (b : Bool) (formed : b ≡ well_formed q) (within : not a ≡ false) where
        pub refused-8 : not b ≡ true → (Err QueueRefused) ≡ standing c q
        unfolding standing
        refused-8 ill = rw (sym ranged ∙ not-false a within, sym formed ∙ not-true b ill)

        module _ (e : Bool) (on : e ≡ enabled c) (well : not b ≡ false) where
          pub refused-3 : not e ≡ true → (Err Disabled) ≡ standing c q
          unfolding standing
          refused-3 off = rw (sym ranged ∙ not-false a within, sym formed ∙ not-false b well, sym on ∙ not-true e off)

          pub refused-not : not e ≡ false → Ok 0 ≡ standing c q
          unfolding standing
          refused-not still = rw (sym ranged ∙ not-false a within, sym formed ∙ not-false b well, sym on ∙ not-false e still)

    then : acceptance c q ≡ pick (is_done (standing c q)) (positions q (size q)) (standing c q)
    unfolding acceptance standing
    then = go (in_range c) (well_formed q) (enabled c)
      where
        go : (a b e : Bool) → pick a (pick b (pick e (positions q (size q)) (Err Disabled)) (Err QueueRefused)) (Err OutOfRange)
            ≡ pick (is_done (pick a (pick b (pick e (Ok 0) (Err Disabled)) (Err QueueRefused)) (Err OutOfRange))) (positions q (size q))
            (pick a (pick b (pick e (Ok 0) (Err Disabled)) (Err QueueRefused)) (Err OutOfRange))
        go true true true = refl
        go true true false = refl
        go true false e = refl
        go false b e = refl

    module _ (r : Answer) (stands : r ≡ standing c q) where
      pub by-standing : is_done r ≡ false → r ≡ acceptance c q
      by-standing f = stands ∙ sym (then ∙ ap (λ (t : Bool). pick t (positions q (size q)) (standing c q)) (sym (ap is_done stands) ∙ f))

      pub by-position : is_done r ≡ true → positions q (size q) ≡ acceptance c q
      by-position f = sym (then ∙ ap (λ (t : Bool). pick t (positions q (size q)) (standing c q)) (sym (ap is_done stands) ∙ f))

-- what a well formed queue is
pub record Lengths (q : Queue) : Type 0 where
  pub few : size q ≤ 16
  pub words : length q.control_words ≡ size q
  pub scalars : length q.scalars ≡ size q

pub lengths : (q : Queue) → well_formed q ≡ true → Lengths q
lengths q e =
    let n = size q in
    let u = both (leb n 16 && eqb (length q.control_words) n) (eqb (length q.scalars) n) e in
    let v = both (leb n 16) (eqb (length q.control_words) n) u.0 in
    record { few = leb-true n 16 v.0; words = eqb-true _ _ v.1; scalars = eqb-true _ _ u.1 }
