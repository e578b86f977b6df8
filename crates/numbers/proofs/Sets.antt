-- Numbers as sets of bits: unions, sections and exclusive ors. Assumes nothing.
use mathlib.Core.Path.{◌≡◌, refl, sym, ap, ap₂, ◌∙◌}
use mathlib.Core.Bool.{Bool, beq, true, false, not, ◌&&◌, ◌||◌}
use mathlib.Core.Logic.{◌⊎◌, inl, inr}
use Prim.Native.Nat.{ℕ, ◌/◌, ◌%◌, ◌^◌, ◌<◌, ◌≤◌}
use native.Mathlib.Nat.{zero-div}
use lib.Dec.{eqb}
use lib.Bits.{bit_or, bit_and, bit_xor, or_shr, or_mod, and_shr, and_mod, xor_shr, xor_mod}
use Rattle.numbers.specs.Choice.{pick}
use Rattle.numbers.specs.Bits.{bit}
use Rattle.numbers.specs.Working.{complement}
use Rattle.numbers.proofs.BitLaws.{digit, digit_lt, of-digit, same_digits, bit-counts, bit-above, bit-complement}
use Rattle.numbers.proofs.Tests.{below_or_not}

-- sets with the same bits are the same
pub same_bits : (a b : ℕ) → ((k : ℕ) → bit a k ≡ bit b k) → a ≡ b
same_bits a b f = same_digits a b (λ k. sym (bit-counts a k) ∙ ap (λ (t : Bool). pick t 1 0) (f k) ∙ bit-counts b k)

-- what holds of each two digits holds of two digits
of-digits : (P : ℕ → ℕ → Type 0) → P 0 0 → P 0 1 → P 1 0 → P 1 1 → (d e : ℕ) → d < 2 → e < 2 → P d e
of-digits P p q r s d e h g = of-digit (λ (x : ℕ). P x e) (of-digit (P 0) p q e g) (of-digit (P 1) r s e g) d h

-- a bit that an operation makes digit by digit, from the two bits
module _ (op : ℕ → ℕ → ℕ) (test : Bool → Bool → Bool) (shr : (a b k : ℕ) → op a b / 2 ^ k ≡ op (a / 2 ^ k) (b / 2 ^ k))
    (rem : (a b k : ℕ) → op a b % 2 ^ k ≡ op (a % 2 ^ k) (b % 2 ^ k)) where
  bit-of : eqb (op 0 0) 1 ≡ test false false → eqb (op 0 1) 1 ≡ test false true → eqb (op 1 0) 1 ≡ test true false
      → eqb (op 1 1) 1 ≡ test true true → (a b k : ℕ) → bit (op a b) k ≡ test (bit a k) (bit b k)
  bit-of p q r s a b k =
      ap (λ (d : ℕ). eqb d 1) (ap (λ (n : ℕ). n % 2) (shr a b k) ∙ rem (a / 2 ^ k) (b / 2 ^ k) 1)
      ∙ of-digits (λ (d e : ℕ). eqb (op d e) 1 ≡ test (eqb d 1) (eqb e 1)) p q r s (digit a k) (digit b k) (digit_lt a k) (digit_lt b k)

pub bit-or : (a b k : ℕ) → bit (bit_or a b) k ≡ (bit a k || bit b k)
bit-or = bit-of bit_or ◌||◌ or_shr or_mod refl refl refl refl

pub bit-and : (a b k : ℕ) → bit (bit_and a b) k ≡ (bit a k && bit b k)
bit-and = bit-of bit_and ◌&&◌ and_shr and_mod refl refl refl refl

pub bit-xor : (a b k : ℕ) → bit (bit_xor a b) k ≡ not (beq (bit a k) (bit b k))
bit-xor = bit-of bit_xor (λ (s t : Bool). not (beq s t)) xor_shr xor_mod refl refl refl refl

pub bit-none : (k : ℕ) → bit 0 k ≡ false
bit-none k = ap (λ (n : ℕ). eqb (n % 2) 1) (zero-div (2 ^ k))

-- ---- bits replaced
module _ (x y which : ℕ) (x-word : x < 2 ^ 64) (y-word : y < 2 ^ 64) (which-word : which < 2 ^ 64) where
  chooses : (a b w : Bool) → (a && not w || (b && w)) ≡ pick w b a
  chooses true true true = refl
  chooses true true false = refl
  chooses true false true = refl
  chooses true false false = refl
  chooses false true true = refl
  chooses false true false = refl
  chooses false false true = refl
  chooses false false false = refl

  pub replaces : (k : ℕ) → bit (bit_or (bit_and x (complement 64 which)) (bit_and y which)) k ≡ pick (bit which k) (bit y k) (bit x k)
  replaces k =
      bit-or (bit_and x (complement 64 which)) (bit_and y which) k
      ∙ ap₂ (λ (s t : Bool). s || t) (bit-and x (complement 64 which) k ∙ at (below_or_not k 64)) (bit-and y which k)
      ∙ chooses (bit x k) (bit y k) (bit which k)
    where
      at : (k < 64) ⊎ (64 ≤ k) → (bit x k && bit (complement 64 which) k) ≡ (bit x k && not (bit which k))
      at (inl h) = ap (λ (t : Bool). bit x k && t) (bit-complement 64 which k which-word h)
      at (inr h) = let g = bit-above x 64 k x-word h in rw g
