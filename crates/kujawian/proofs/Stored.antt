-- Five numbers as a control record: what is read and stored again, and what is stored and read. Assumes nothing.
use mathlib.Core.Path.{◌≡◌, refl, sym, ap, subst, ◌∙◌}
use mathlib.Core.List.{List, [], ◌∷◌}
use Prim.Native.Nat.{ℕ}
use native.Mathlib.Omega.{arith}
use lib.ListN.{length}
use lib.Seq.{set-get_or}
use Rattle.state.specs.declared.Control.{Control}
use Rattle.state.specs.Answer.{Answer}
use Rattle.state.specs.Answer.{number_of, beside_of, numbers}
use Rattle.state.specs.Marks.{Marked, marked}
use Rattle.state.specs.State.{state}
use Rattle.touch.specs.Parts.{Queue}
use Rattle.queue.specs.Claim.{AcceptedClaim}
use Rattle.kujawian.specs.Face.{control_of, control_into, marked_of}

-- storing what was read changes nothing: after a refusal the record is the one handed over
pub stored_back : (l : List ℕ) → control_into l (control_of l) ≡ l
unfolding control_of control_into
stored_back l = simp set-get_or

-- what is stored in five numbers is read back
pub read_back : (l : List ℕ) (c : Control) → length l ≡ 5 → control_of (control_into l c) ≡ c
unfolding control_of control_into
read_back (v ∷ w ∷ x ∷ y ∷ z ∷ []) c e = refl
read_back [] c e = absurd (omega arith)
read_back (v ∷ []) c e = absurd (omega arith)
read_back (v ∷ w ∷ []) c e = absurd (omega arith)
read_back (v ∷ w ∷ x ∷ []) c e = absurd (omega arith)
read_back (v ∷ w ∷ x ∷ y ∷ []) c e = absurd (omega arith)
read_back (v ∷ w ∷ x ∷ y ∷ z ∷ u ∷ l) c e = absurd (omega arith)

-- so the claim of a list, of the record, is that of the numbers
pub list-claim : (q : Queue) (list : List ℕ) (b : Marked) (a : Answer) (elements l l' m : List ℕ) (c : Control) (number beside : ℕ) → length l ≡ 5
    → (number, beside) ≡ numbers a → l' ≡ control_into l c
    → AcceptedClaim q list b (number_of a) (beside_of a) (marked (state elements c) m)
    → AcceptedClaim q list b number beside (marked_of elements l' m)
list-claim q list b a elements l l' m c number beside five given stored claim =
    let at : control_of l' ≡ c = ap control_of stored ∙ read_back l c five in
    let told : AcceptedClaim q list b (number_of a) (beside_of a) (marked_of elements l' m) = rw at claim in
    subst (λ (n : ℕ × ℕ). AcceptedClaim q list b n.0 n.1 (marked_of elements l' m)) (sym given) told
