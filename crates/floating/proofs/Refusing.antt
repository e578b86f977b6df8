-- What an element receives of what is delivered, and a reserved operand, which decides first (in a quotient, after a divisor that is zero). Assumes nothing.
use Rattle.std.proofs.Common.{◌≡◌, ℕ, Bool, true, false, ◌&&◌, ◌||◌, eqb, sym, refl, ap, ◌∙◌, arith, ne_eqb, eqb-true}
use borrow.Author.Tests.{eqb-false}
use Rattle.numbers.specs.Choice.{pick}
use Rattle.floating.specs.declared.Delivery.{Delivery}
use Rattle.floating.specs.declared.Delivery.TheVariants.{Word, Overflow, Underflow, Reserved}
use Rattle.floating.specs.Format.{Format, exponent_of, is_reserved}
use Rattle.floating.specs.Working.{is_special}
use Rattle.floating.specs.Operations.{answered}

-- ---- the answer to what is delivered
module _ (exc : Bool) (o : Delivery) where
  pub answer_word : (w : ℕ) → Word w ≡ o → record { value = w; types = 0 } ≡ answered exc o
  answer_word w h = ap (answered exc) h

  pub answer-over : Overflow ≡ o → record { value = 0x8008; types = 8 } ≡ answered exc o
  answer-over h = ap (answered exc) h

  pub answer-reserved : Reserved ≡ o → record { value = 0x8004; types = 4 } ≡ answered exc o
  answer-reserved h = ap (answered exc) h

  pub answer-under : (v t : ℕ) → v ≡ pick exc 0x8001 0 → t ≡ pick exc 1 0 → Underflow ≡ o → record { value = v; types = t } ≡ answered exc o
  answer-under v t hv ht h =
      ap (λ (z : ℕ). record { value = z; types = t }) hv ∙ ap (λ (z : ℕ). record { value = pick exc 0x8001 0; types = z }) ht ∙ go exc ∙ ap (answered exc) h
    where
      go : (x : Bool) → record { value = pick x 0x8001 0; types = pick x 1 0 } ≡ answered x Underflow
      go true = refl
      go false = refl

-- ---- a reserved operand, by the tests that the code makes
module _ (p q t u : Bool) (x : Delivery) (ht : t ≡ p) (hu : u ≡ q) where
  pub refused : (t || u) ≡ true → Reserved ≡ pick p Reserved (pick q Reserved x)
  refused h = go t u h ∙ ap (λ (z : Bool). pick z Reserved (pick u Reserved x)) ht ∙ ap (λ (z : Bool). pick p Reserved (pick z Reserved x)) hu
    where
      go : (t u : Bool) → (t || u) ≡ true → Reserved ≡ pick t Reserved (pick u Reserved x)
      go true u h = refl
      go false true h = refl
      go false false h = let z : ◌≡◌ {A = ℕ} 0 1 = cc in absurd (omega arith)

  pub passed : (t || u) ≡ false → x ≡ pick p Reserved (pick q Reserved x)
  passed h = go t u h ∙ ap (λ (z : Bool). pick z Reserved (pick u Reserved x)) ht ∙ ap (λ (z : Bool). pick p Reserved (pick z Reserved x)) hu
    where
      go : (t u : Bool) → (t || u) ≡ false → x ≡ pick t Reserved (pick u Reserved x)
      go true u h = let z : ◌≡◌ {A = ℕ} 0 1 = cc in absurd (omega arith)
      go false true h = let z : ◌≡◌ {A = ℕ} 0 1 = cc in absurd (omega arith)
      go false false h = refl

-- ---- two tests of one word
pub both-tests : (x y : Bool) → (x && y) ≡ pick x y false
both-tests true y = refl
both-tests false y = refl

-- ---- one test for both exponents
module _ (f : Format) (a b : ℕ) where
  -- as the code makes it
  pub special-tested : (x y : ℕ) → x ≡ exponent_of f a → y ≡ exponent_of f b → (eqb x 0 || eqb y 0) ≡ is_special f a b
  special-tested x y hx hy = ap (λ (z : ℕ). eqb z 0 || eqb y 0) hx ∙ ap (λ (z : ℕ). eqb (exponent_of f a) 0 || eqb z 0) hy

  pub none-zero : is_special f a b ≡ false → (exponent_of f a ≡ 0 → ⊥) × (exponent_of f b ≡ 0 → ⊥)
  none-zero h = go (eqb (exponent_of f a) 0) (eqb (exponent_of f b) 0) refl refl h
    where
      go : (p q : Bool) → eqb (exponent_of f a) 0 ≡ p → eqb (exponent_of f b) 0 ≡ q → (p || q) ≡ false → (exponent_of f a ≡ 0 → ⊥) × (exponent_of f b ≡ 0 → ⊥)
      go true q e g h = let z : ◌≡◌ {A = ℕ} 0 1 = cc in absurd (omega arith)
      go false true e g h = let z : ◌≡◌ {A = ℕ} 0 1 = cc in absurd (omega arith)
      go false false e g h = (eqb-false _ 0 e, eqb-false _ 0 g)

  pub some-zero : is_special f a b ≡ true → (exponent_of f a ≡ 0 → ⊥) → exponent_of f b ≡ 0
  some-zero h n = go (eqb (exponent_of f a) 0) (eqb (exponent_of f b) 0) refl refl h
    where
      go : (p q : Bool) → eqb (exponent_of f a) 0 ≡ p → eqb (exponent_of f b) 0 ≡ q → (p || q) ≡ true → exponent_of f b ≡ 0
      go true q e g h = absurd (n (eqb-true _ 0 e))
      go false true e g h = eqb-true _ 0 g
      go false false e g h = let z : ◌≡◌ {A = ℕ} 0 1 = cc in absurd (omega arith)

-- a number is not reserved
pub number-free : (f : Format) (w : ℕ) → (exponent_of f w ≡ 0 → ⊥) → false ≡ is_reserved f w
number-free f w n = sym (simp (ne_eqb (exponent_of f w) 0 n))

-- and two numbers are passed on to the operation
pub numbers-passed : (f : Format) (a b : ℕ) (x : Delivery) → (exponent_of f a ≡ 0 → ⊥) → (exponent_of f b ≡ 0 → ⊥)
    → x ≡ pick (is_reserved f a) Reserved (pick (is_reserved f b) Reserved x)
numbers-passed f a b x na nb = passed (is_reserved f a) (is_reserved f b) false false x (number-free f a na) (number-free f b nb) refl
