-- Laws of the addresses. Assumes nothing.
use Rattle.std.proofs.Common.{◌≡◌, ℕ, ◌<◌, true, false, List, length, get_or, set, sym, ap, ◌∙◌, arith, get_or-set_other, get_or-set_same}
use Rattle.numbers.specs.Bits.{bit, with_bit, without_bit}
use Rattle.numbers.specs.Working.{lowest_one}
use Rattle.numbers.proofs.BitLaws.{bit_kept, dec_eq}

-- one more place of a list is filled: P holds of those that were, and Q of no other but i
module _ (P Q : ℕ → Type 0) (f : ℕ → ℕ) (l : List ℕ) (i v : ℕ) (h : i < length l) (before : (k : ℕ) → P k → get_or l k 0 ≡ f k) (e : v ≡ f i)
    (others : (k : ℕ) → Q k → (k ≡ i → ⊥) → P k) where
  fills : (k : ℕ) → Q k → get_or (set l i v) k 0 ≡ f k
  fills k q = at (dec_eq k i)
    where
      at : Dec (k ≡ i) → get_or (set l i v) k 0 ≡ f k
      at (yes g) = rw g (get_or-set_same l i v 0 h ∙ e)
      at (no g) = get_or-set_other l i k v 0 g ∙ before k (others k q g)

-- as a set is walked: the places of those that are no longer left are filled
abbrev pub Filled : (ℕ → ℕ) → ℕ → ℕ → List ℕ → Type 0
Filled f which left l = (k : ℕ) → (bit which k ≡ true) × (bit left k ≡ false) → get_or l k 0 ≡ f k

-- the lowest that is left
module _ (f : ℕ → ℕ) (which left i rest : ℕ) (at : i ≡ lowest_one left) (others : rest ≡ without_bit left (lowest_one left)) where
  same : with_bit left i 0 ≡ rest
  same = let z : with_bit left i 0 ≡ without_bit left i = omega arith in z ∙ ap (without_bit left) at ∙ sym others

  pub fills_one : (l : List ℕ) (v : ℕ) → i < length l → Filled f which left l → v ≡ f i → Filled f which rest (set l i v)
  fills_one l v h before e =
      fills (λ (k : ℕ). (bit which k ≡ true) × (bit left k ≡ false)) (λ (k : ℕ). (bit which k ≡ true) × (bit rest k ≡ false)) f l i v h before e
      (λ k q g. (q.0, sym (bit_kept left i 0 (omega arith) k g) ∙ ap (λ (x : ℕ). bit x k) same ∙ q.1))
