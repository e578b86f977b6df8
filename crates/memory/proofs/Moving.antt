-- Laws of what is moved. Assumes nothing.
use Rattle.std.specs.Prelude.{Ok, Err}
use Rattle.std.proofs.Common.{◌≡◌, ℕ, ◌^◌, ◌<◌, Bool, true, false, List, set, refl, ap, ◌∙◌}
use Rattle.numbers.specs.Bits.{bit}
use Rattle.numbers.specs.Choice.{pick}
use Rattle.numbers.specs.Rising.{rising}
use Rattle.numbers.specs.Working.{of_ones}
use Rattle.state.specs.Marks.{Marked, also_marked}
use Rattle.state.specs.State.{place_of}
use Rattle.state.proofs.Marking.{marks-rise}
use Rattle.state.specs.Elements.{at}
use Rattle.numbers.proofs.Rising.{alike}
use Rattle.memory.specs.Works.{size_of}
use Rattle.memory.specs.Window.{number_at, put_at}
use Rattle.memory.specs.Address.{Test, Search, saying, or_else, verdict, test_step, tested}
use Rattle.memory.specs.Move.{received, moves_by, load_step, mark_step, store_step, unless_bad, moved_by}
use Rattle.memory.proofs.Testing.{all-fine}

-- the steps of elements that are operated on
unfoldable pub load_at : Bool → ℕ → (ℕ → ℕ) → List ℕ → ℕ → List ℕ → List ℕ
load_at quadword vc place w i l = set l (place_of vc i) (received quadword (at l vc i) (number_at (size_of quadword) w (place i)))

unfoldable pub store_at : Bool → ℕ → (ℕ → ℕ) → List ℕ → ℕ → List ℕ → List ℕ
store_at quadword vc place l i w = put_at (size_of quadword) w (place i) (at l vc i)

-- the ones of a set are the elements that are operated on
module _ (quadword : Bool) (vc which : ℕ) (place : ℕ → ℕ) (n : ℕ) (l w : List ℕ) where
  pub loads-ones : rising (of_ones (load_at quadword vc place w) which) n l ≡ rising (load_step quadword vc (bit which) place w) n l
  unfolding of_ones load_at load_step
  loads-ones = refl

  pub stores-ones : rising (of_ones (store_at quadword vc place l) which) n w ≡ rising (store_step quadword vc (bit which) place l) n w
  unfolding of_ones store_at store_step
  stores-ones = refl

-- and marked one by one they are marked all at once
pub marks-ones : (vc which n : ℕ) (m : List ℕ) → which < 2 ^ n → rising (mark_step vc (bit which)) n m ≡ also_marked m vc which
unfolding of_ones mark_step
marks-ones vc which n m small = marks-rise m vc which n small

-- of the elements only those that are chosen are asked where they stand in the window
module _ (quadword : Bool) (vc : ℕ) (chosen : ℕ → Bool) (place place' : ℕ → ℕ) (n : ℕ) (l m w : List ℕ)
    (same : (i : ℕ) → i < n → chosen i ≡ true → place i ≡ place' i) where
  steps : (f : ℕ → ℕ → List ℕ → List ℕ) (x : List ℕ)
      → rising (λ i x. pick (chosen i) (f i (place i) x) x) n x ≡ rising (λ i x. pick (chosen i) (f i (place' i) x) x) n x
  steps f x = alike _ _ n x (λ i x h. at i x (chosen i) (same i h))
    where
      at : (i : ℕ) (x : List ℕ) (t : Bool) → (t ≡ true → place i ≡ place' i) → pick t (f i (place i) x) x ≡ pick t (f i (place' i) x) x
      at i x true e = ap (λ (k : ℕ). f i k x) (e refl)
      at i x false e = refl

  pub moves-agree : (store : Bool) → moves_by store quadword vc chosen place n l m w ≡ moves_by store quadword vc chosen place' n l m w
  unfolding store_step load_step
  moves-agree true = ap (λ (x : List ℕ). (l, m, x)) (steps (λ (i k : ℕ) (x : List ℕ). put_at (size_of quadword) x k (at l vc i)) w)
  moves-agree false =
      ap (λ (x : List ℕ). (x, rising (mark_step vc chosen) n m, w))
      (steps (λ (i k : ℕ) (x : List ℕ). set x (place_of vc i) (received quadword (at x vc i) (number_at (size_of quadword) w k))) l)

-- and only those that are fine
module _ (store quadword : Bool) (vc : ℕ) (chosen : ℕ → Bool) (tests tests' : ℕ → Test) (place place' : ℕ → ℕ) (n : ℕ) (b : Marked) (w : List ℕ)
    (same : (i : ℕ) → tests i ≡ tests' i) (there : (i : ℕ) → tests i ≡ Ok tt → place i ≡ place' i) where
  tests_agree : tested chosen tests n ≡ tested chosen tests' n
  unfolding test_step
  tests_agree = alike _ _ n (Ok tt) (λ i a _. ap (λ (t : Test). or_else a (saying i (verdict (chosen i) t))) (same i))

  pub moved-agree : moved_by store quadword vc chosen tests place n b w ≡ moved_by store quadword vc chosen tests' place' n b w
  moved-agree =
      go (tested chosen tests n) refl
      ∙ ap (λ (a : Search). unless_bad a b w (moves_by store quadword vc chosen place' n b.state.elements b.marks w)) tests_agree
    where
      go : (a : Search) → tested chosen tests n ≡ a
          → unless_bad a b w (moves_by store quadword vc chosen place n b.state.elements b.marks w)
          ≡ unless_bad a b w (moves_by store quadword vc chosen place' n b.state.elements b.marks w)
      go (Ok _) e =
          ap (unless_bad (Ok tt) b w)
          (moves-agree quadword vc chosen place place' n b.state.elements b.marks w (λ i h c. there i (all-fine chosen tests n i e h c)) store)
      go (Err r) e = refl
