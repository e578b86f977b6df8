-- A reading as its kind and its bits, and what a refused one leaves. Assumes nothing.
use Rattle.std.specs.Prelude.{Ok, Err, is_ok}
use mathlib.Core.Bool.{Bool, true, false, ◌&&◌}
use mathlib.Core.Path.{◌≡◌, refl, sym, ap, subst, ◌∙◌}
use mathlib.Core.List.{List}
use Prim.Native.Nat.{ℕ, zero, suc, ◌<◌}
use native.Mathlib.Omega.{arith}
use lib.Dec.{ltb}
use borrow.Author.Tests.{ltb-true}
use Rattle.numbers.specs.Choice.{pick}
use Rattle.numbers.specs.Halves.{low}
use Rattle.numbers.proofs.Tests.{and_right, pick_true, pick-false}
use Rattle.state.specs.declared.Control.{Control}
use Rattle.state.specs.declared.answer.Refusal.{Refusal}
use Rattle.state.specs.declared.answer.Refusal.TheVariants.{OutOfRange, NoSuchField}
use Rattle.state.specs.Answer.{numbers}
use Rattle.state.specs.State.{state, in_range}
use Rattle.state.specs.Elements.{at}
use Rattle.floating.specs.declared.Reading.{Reading}
use Rattle.floating.specs.Reading.{kind_of, bits_of}
use Rattle.panel.specs.Panel.{Panel, is_field, field_answer, panel_answer, kind_shown, bits_shown, ShownAs, Holds, Answered}
use Rattle.kujawian.specs.Face.{control_of, field_read}

-- what is shown, as numbers
record Numbers (kind word : ℕ) (x : Reading) : Type 0 where
  kind-is : kind_of x ≡ kind_shown kind word
  bits_are : bits_of x ≡ bits_shown kind word

numbers_of : (kind word : ℕ) (x : Reading) → kind < 2 → ShownAs kind word x → Numbers kind word x
numbers_of zero word x h s =
    let f = s.floating refl in
    record { kind-is = f.kind; bits_are = f.bits }
numbers_of (suc zero) word x h s =
    let l = s.longword refl in
    record { kind-is = ap kind_of l.0; bits_are = l.1 }
numbers_of (suc (suc n)) word x h s = absurd (omega arith)

module _ (elements l : List ℕ) (c : Control) (taken : c ≡ control_of l) (register element kind : ℕ)
    (p : Panel) (given : Answered (state elements c) register element kind p) where
  -- the tests passed where a reading is shown, and else one did not
  tests : (in_range c && is_field register element kind) ≡ is_ok p
  unfolding field_answer
  tests = by p (in_range c) (is_field register element kind) given.answer
    where
      by : (q : Panel) (i f : Bool) → panel_answer q ≡ pick i (pick f (Ok 0) (Err NoSuchField)) (Err OutOfRange) → (i && f) ≡ is_ok q
      by (Ok x) true true e = refl
      by (Ok x) true false e = cc
      by (Ok x) false f e = cc
      by (Err why) true true e = cc
      by (Err why) true false e = refl
      by (Err why) false f e = refl

  -- `n` is the number and what stands beside it, as `answers::give` gives them
  module _ (n : ℕ × ℕ) (kind₀ bits₀ : ℕ) where
    -- of a reading that is shown
    module _ (x : Reading) (is : p ≡ Ok x) where
      fits : (in_range c && is_field register element kind) ≡ true
      fits = tests ∙ ap (λ (q : Panel). is_ok q) is

      shown : Numbers kind (low (at elements register element)) x
      shown =
          let field = and_right (in_range c) (is_field register element kind) fits in
          let k = and_right (ltb register 16) _ field in
          numbers_of kind (low (at elements register element)) x (ltb-true kind 2 (and_right (ltb element 64) (ltb kind 2) k))
          (subst (Holds kind (low (at elements register element))) is given.reading)

      pub field-shown : n ≡ numbers (Ok 0) → (k b : ℕ) → k ≡ kind_of x → b ≡ bits_of x
          → (n, k, b) ≡ field_read (state elements (control_of l)) register element kind kind₀ bits₀
      unfolding field_read
      field-shown e k b ek eb =
          ap (λ (m : ℕ × ℕ). (m, k, b)) e
          ∙ ap (λ (m : ℕ). (numbers (Ok 0), m, b)) (ek ∙ shown.kind-is)
          ∙ ap (λ (m : ℕ). (numbers (Ok 0), kind_shown kind (low (at elements register element)), m)) (eb ∙ shown.bits_are)
          ∙ sym (pick_true (in_range c && is_field register element kind) _ _ fits)
          ∙ ap (λ (k : Control). field_read (state elements k) register element kind kind₀ bits₀) taken

    -- of a refused one
    pub field-refused : (why : Refusal) → p ≡ Err why → n ≡ numbers (Err why)
        → (n, kind₀, bits₀) ≡ field_read (state elements (control_of l)) register element kind kind₀ bits₀
    unfolding field_read
    field-refused why is e =
        ap (λ (m : ℕ × ℕ). (m, kind₀, bits₀)) (e ∙ ap numbers (ap panel_answer (sym is) ∙ given.answer))
        ∙ sym (pick-false (in_range c && is_field register element kind) _ _ (tests ∙ ap (λ (q : Panel). is_ok q) is))
        ∙ ap (λ (k : Control). field_read (state elements k) register element kind kind₀ bits₀) taken
