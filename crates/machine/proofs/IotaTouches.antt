-- What IOTA's walk touches: of the elements, those of vc below the count, and of the mask, the bits below n. Document 01, "Elements from VCR on keep".
-- Assumes nothing.
use mathlib.Core.Path.{◌≡◌, refl, sym, ap, ap₂, ◌∙◌}
use mathlib.Core.Bool.{Bool, true, false, beq}
use mathlib.Core.List.{List}
use Prim.Native.Nat.{ℕ, zero, suc, ◌+◌, ◌*◌, ◌%◌, ◌^◌, ◌≤◌, ◌<◌}
use native.Mathlib.Omega.{arith}
use lib.ListN.{length, get_or, set, length-set}
use lib.Seq.{get_or-set_other, set_comm}
use Rattle.numbers.specs.Choice.{pick}
use Rattle.numbers.specs.Bits.{bit}
use Rattle.numbers.specs.Halves.{with_low}
use Rattle.state.specs.State.{place_of}
use Rattle.state.specs.Elements.{matches}
use Rattle.machine.specs.Iota.{matching, put, turned, walked}

-- p is no place of vc's first k elements
abbrev pub Outside : ℕ → ℕ → ℕ → Type 0
Outside vc k p = (e : ℕ) → e < k → p ≡ place_of vc e → ⊥

-- element e from k on is one
pub past : (vc k e : ℕ) → k ≤ e → Outside vc k (place_of vc e)
past vc k e h f g q = omega arith

-- ---- one turn

-- the elements after a turn whose bit does or does not match
abbrev after : Bool → ℕ → ℕ → ℕ → List ℕ → List ℕ
after t vc e value l = pick t (put vc e value l) l

after-length : (t : Bool) (vc e value : ℕ) (l : List ℕ) → length (after t vc e value l) ≡ length l
after-length true vc e value l = length-set l (place_of vc e) _
after-length false vc e value l = refl

module _ (vc e value p : ℕ) where
  after-outside : (t : Bool) → Outside vc (e + pick t 1 0) p → (l : List ℕ) → get_or (after t vc e value l) p 0 ≡ get_or l p 0
  after-outside true out l = get_or-set_other l (place_of vc e) p _ 0 (out e (omega arith))
  after-outside false out l = refl

  after-set : (t : Bool) → Outside vc (e + pick t 1 0) p → (v : ℕ) (l : List ℕ) → after t vc e value (set l p v) ≡ set (after t vc e value l) p v
  after-set true out v l =
      ap (λ (x : ℕ). set (set l p v) (place_of vc e) (with_low x value)) (get_or-set_other l p (place_of vc e) v 0 (λ q. out e (omega arith) (sym q)))
      ∙ set_comm l p (place_of vc e) v _ (out e (omega arith))
  after-set false out v l = refl

-- ---- the walk

module _ (vmr : ℕ) (mtf : Bool) (stride vc : ℕ) where
  pub walked-length : (n : ℕ) (l : List ℕ) → length (walked vmr mtf stride vc n l) ≡ length l
  unfolding walked turned
  walked-length zero l = refl
  walked-length (suc n) l = after-length (matches vmr mtf n) vc (matching vmr mtf n) _ (walked vmr mtf stride vc n l) ∙ walked-length n l

  fewer : (n p : ℕ) → Outside vc (matching vmr mtf (suc n)) p → Outside vc (matching vmr mtf n) p
  unfolding matching
  fewer n p out e h = out e (omega arith)

  -- what stands anywhere else is kept
  pub walked-outside : (n p : ℕ) → Outside vc (matching vmr mtf n) p → (l : List ℕ) → get_or (walked vmr mtf stride vc n l) p 0 ≡ get_or l p 0
  unfolding walked turned matching
  walked-outside zero p out l = refl
  walked-outside (suc n) p out l =
      after-outside vc (matching vmr mtf n) (n * stride % 2 ^ 32) p (matches vmr mtf n) out (walked vmr mtf stride vc n l)
      ∙ walked-outside n p (fewer n p out) l

  -- and may be written before the walk or after it
  pub walked-set : (n p : ℕ) → Outside vc (matching vmr mtf n) p → (v : ℕ) (l : List ℕ)
      → walked vmr mtf stride vc n (set l p v) ≡ set (walked vmr mtf stride vc n l) p v
  unfolding walked turned matching
  walked-set zero p out v l = refl
  walked-set (suc n) p out v l =
      ap (after (matches vmr mtf n) vc (matching vmr mtf n) (n * stride % 2 ^ 32)) (walked-set n p (fewer n p out) v l)
      ∙ after-set vc (matching vmr mtf n) (n * stride % 2 ^ 32) p (matches vmr mtf n) out v (walked vmr mtf stride vc n l)

-- masks with the same bits below n have the same count and the same walk
module _ (vmr vmr' : ℕ) (mtf : Bool) where
  matches-same : (i : ℕ) → bit vmr i ≡ bit vmr' i → matches vmr mtf i ≡ matches vmr' mtf i
  matches-same i e = ap (λ (t : Bool). beq t mtf) e

  pub matching-same : (n : ℕ) → ((i : ℕ) → i < n → bit vmr i ≡ bit vmr' i) → matching vmr mtf n ≡ matching vmr' mtf n
  unfolding matching
  matching-same zero h = refl
  matching-same (suc n) h =
      ap₂ (λ (k : ℕ) (t : Bool). k + pick t 1 0) (matching-same n (λ i g. h i (omega arith))) (matches-same n (h n (omega arith)))

  pub walked_same : (stride vc n : ℕ) → ((i : ℕ) → i < n → bit vmr i ≡ bit vmr' i) → (l : List ℕ)
      → walked vmr mtf stride vc n l ≡ walked vmr' mtf stride vc n l
  unfolding walked turned
  walked_same stride vc zero h l = refl
  walked_same stride vc (suc n) h l =
      ap₂ (λ (t : Bool) (k : ℕ). after t vc k (n * stride % 2 ^ 32) (walked vmr mtf stride vc n l))
      (matches-same n (h n (omega arith))) (matching-same n (λ i g. h i (omega arith)))
      ∙ ap (after (matches vmr' mtf n) vc (matching vmr' mtf n) (n * stride % 2 ^ 32)) (walked_same stride vc n (λ i g. h i (omega arith)) l)
