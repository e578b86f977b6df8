-- Laws of the tests. Assumes nothing.
use Rattle.std.specs.Prelude.{Ok, Err}
use Rattle.std.proofs.Common.{◌≡◌, ℕ, zero, suc, ◌+◌, ◌%◌, ◌^◌, ◌<◌, ◌≤◌, Bool, true, false, eqb, leb, ◌⊎◌, List, sym, refl, ap, ◌∙◌, inl, inr, ⊎_elim, arith, leb-true}
use Rattle.numbers.specs.Bits.{bit}
use Rattle.numbers.specs.Choice.{pick}
use Rattle.numbers.proofs.BitLaws.{bit-above}
use Rattle.numbers.proofs.SetBits.{Walk, stops-walk, ends-walk}
use Rattle.numbers.proofs.Sets.{bit-none}
use Rattle.numbers.proofs.Tests.{below_or_not, true-not-false}
use Rattle.state.specs.declared.answer.Refusal.{Refusal}
use Rattle.numbers.specs.Rising.{rising}
use Rattle.numbers.specs.Working.{of_ones}
use Rattle.memory.specs.Works.{size_of}
use Rattle.memory.specs.Address.{Test, Search, found, verdict, saying, or_else, test_step, tested}
use Rattle.memory.specs.Working.{AddressesBelow, test_at, tests_at, Within, Searched}
use Rattle.numbers.proofs.Rising.{starts, settles, alike}
use Rattle.memory.proofs.Filling.{Filled}

-- an element that is fine lies in the window
pub within : (size bytes place : ℕ) → test_at size bytes place ≡ Ok tt → Within size bytes place
unfolding test_at
within size bytes place e = leb-true (place + size) bytes (picked (eqb (place % size) 0) (leb (place + size) bytes) e)
  where
    picked : (a b : Bool) → found a b ≡ Ok tt → b ≡ true
    picked a true e = refl
    picked true false e = cc
    picked false false e = cc

pub or-fine : (a : Search) → or_else a (Ok tt) ≡ a
or-fine (Ok _) = refl
or-fine (Err r) = refl

both-fine : (a b : Search) → or_else a b ≡ Ok tt → (a ≡ Ok tt) × (b ≡ Ok tt)
both-fine (Ok _) b e = (refl, e)
both-fine (Err r) b e = cc

said-fine : (i : ℕ) (t : Test) → saying i t ≡ Ok tt → t ≡ Ok tt
said-fine i (Ok _) e = refl
said-fine i (Err f) e = cc

module _ (chosen : ℕ → Bool) (tests : ℕ → Test) where
  -- no bad element below n
  below : (n i : ℕ) → i < n → tested chosen tests n ≡ Ok tt → verdict (chosen i) (tests i) ≡ Ok tt
  unfolding rising test_step
  below zero i h e = absurd (omega arith)
  below (suc n) i h e =
      let d = both-fine (tested chosen tests n) _ e in
      ⊎_elim
      (λ (k : i < n). below n i k d.0)
      (λ (k : n ≤ i). let g : i ≡ n = omega arith in rw g (said-fine n _ d.1))
      (below_or_not i n)

  pub all-fine : (n i : ℕ) → tested chosen tests n ≡ Ok tt → i < n → chosen i ≡ true → tests i ≡ Ok tt
  all-fine n i e h c = rw c at (below n i h e)

-- no element below n is bad, and the set has no others
module _ (size bytes which n : ℕ) (place : ℕ → ℕ) (addresses : List ℕ) (small : which < 2 ^ n)
    (listed : AddressesBelow place n addresses) (each : (i : ℕ) → i < n → tests_at size bytes place i ≡ Ok tt) where
  pub none-bad : Searched size bytes which place (Ok tt) addresses
  unfolding test_step
  none-bad = record {
    told = settles (test_step (bit which) (tests_at size bytes place)) (Ok tt) (Ok tt) 0 64 (omega arith)
        (λ i _ _. fine i (below_or_not i n)) (starts _ _);
    kept = λ _ i e. ⊎_elim (listed.1 i) (λ (h : n ≤ i). absurd (true-not-false (sym (bit-above which n i small h) ∙ e))) (below_or_not i n);
  }
    where
      either : (b : Bool) → verdict b (Ok tt) ≡ Ok tt
      either true = refl
      either false = refl

      fine : (i : ℕ) → (i < n) ⊎ (n ≤ i) → saying i (verdict (bit which i) (tests_at size bytes place i)) ≡ Ok tt
      fine i (inl h) = ap (saying i) (ap (verdict (bit which i)) (each i h) ∙ either (bit which i))
      fine i (inr h) = let b = bit-above which n i small h in rw b

-- the test of an element that is operated on, after those of the elements below it
unfoldable pub looks_at : (ℕ → Test) → ℕ → Search → Search
looks_at tests i a = or_else a (saying i (tests i))

module _ (size bytes : ℕ) (place : ℕ → ℕ) where
  -- the ones of a set are the elements that are operated on
  tests-ones : (which n : ℕ) → rising (of_ones (looks_at (tests_at size bytes place)) which) n (Ok tt) ≡ tested (bit which) (tests_at size bytes place) n
  unfolding of_ones looks_at test_step
  tests-ones which n = alike _ _ n (Ok tt) (λ i a _. either a (tests_at size bytes place i) i (bit which i))
    where
      either : (a : Search) (t : Test) (i : ℕ) (b : Bool) → pick b (or_else a (saying i t)) a ≡ or_else a (saying i (verdict b t))
      either a t i true = refl
      either a t i false = sym (or-fine a)

  -- what the test of element i says, where none was bad before
  pub turn : (i a : ℕ) (r : Search) → a ≡ place i → r ≡ saying i (test_at size bytes a) → r ≡ looks_at (tests_at size bytes place) i (Ok tt)
  unfolding looks_at
  turn i a r at said = said ∙ ap (λ (k : ℕ). saying i (test_at size bytes k)) at

  module _ {which left : ℕ} (addresses : List ℕ) where
    pub no_more : Walk (looks_at (tests_at size bytes place)) which 64 (Ok tt) left (Ok tt) → Filled place which left addresses → left ≡ 0
        → Searched size bytes which place (Ok tt) addresses
    no_more w filled e = record {
      told = ends-walk _ _ _ _ _ _ w e ∙ tests-ones which 64;
      kept = λ _ i h. filled i (h, ap (λ (x : ℕ). bit x i) e ∙ bit-none i);
    }

    -- a bad element that was found stays
    pub bad : (r : Refusal) → Walk (looks_at (tests_at size bytes place)) which 64 (Ok tt) left (Err r) → Searched size bytes which place (Err r) addresses
    unfolding looks_at
    bad r w = record {
      told = stops-walk _ _ _ _ _ _ w (λ j. refl) ∙ tests-ones which 64;
      kept = λ g. cc;
    }

pub size-some : (quadword : Bool) (n : ℕ) → n ≡ size_of quadword → 4 ≤ n
size-some true n e = omega arith
size-some false n e = omega arith
