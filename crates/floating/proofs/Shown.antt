-- What a reading shows of a word. Assumes nothing.
use Rattle.std.proofs.Common.{◌≡◌, ℕ, ◌+◌, ◌%◌, ◌^◌, ◌<◌, Bool, true, false, eqb, ℤ, sym, refl, ap, ◌∙◌, subst, arith, w32, Fits, to_z, of_z, eq-eqb, ne_eqb}
use lib.Ieee.{Float, binary64, of_bits, to_bits, size}
use lib.Ieee.Exact.{HasValue}
use mir.ValLaws.{of_z-to_z}
use Rattle.numbers.specs.Choice.{pick}
use Rattle.numbers.specs.Signed.{signed, low32}
use Rattle.numbers.proofs.Longwords.{low32-signed}
use Rattle.floating.specs.declared.Reading.TheVariants.{Number, Longword, Reserved}
use Rattle.floating.specs.Format.{Format, sign_of, exponent_of, fraction_of, is_reserved}
use Rattle.floating.specs.Reading.{Shows, double_bits, longword_reading}
use Rattle.floating.specs.Working.{Reads}
use Rattle.floating.proofs.Signed.{signed_is}
use Rattle.floating.proofs.Products.{size_none, size-some}

-- ---- a format's word
-- no exponent: reserved with the sign, and zero without it
by_sign : (f : Format) (w e s : ℕ) → e ≡ exponent_of f w → e ≡ 0 → s ≡ sign_of f w → eqb s 1 ≡ is_reserved f w
by_sign f w e s he z hs = ap (λ (y : ℕ). eqb y 1) hs ∙ sym (simp (eq-eqb (exponent_of f w) 0 (sym he ∙ z)))

module _ (f : Format) (w : ℕ) where
  pub shows-reserved : (e s c : ℕ) → e ≡ exponent_of f w → e ≡ 0 → s ≡ sign_of f w → s ≡ 1 → c ≡ w % 16 → Shows f w (Reserved c)
  shows-reserved e s c he z hs y hc =
      let r : is_reserved f w ≡ true = sym (by_sign f w e s he z hs) ∙ eq-eqb s 1 y in
      record { kind = sym (simp r); bits = hc ∙ sym (simp r); value = tt }

  zero_bits : to_bits binary64 (of_bits binary64 0) ≡ 0
  unfolding to_bits of_bits size
  zero_bits = refl

  zero-value : (s : Bool) (d : ℕ) → s ≡ false → HasValue (of_bits binary64 0) s 0 d
  unfolding of_bits
  zero-value s d h = (sym h, omega arith)

  by_tests : (p q : Bool) (a b : ℕ) → p ≡ false → q ≡ true → pick p a (pick q 0 b) ≡ 0
  by_tests p q a b h k = simp (h, k)

  pub shows-zero : (e s : ℕ) → e ≡ exponent_of f w → e ≡ 0 → s ≡ sign_of f w → (s ≡ 1 → ⊥) → Shows f w (Number (of_bits binary64 0))
  shows-zero e s he z hs n =
      let p : eqb s 1 ≡ false = ne_eqb s 1 n in
      let r : is_reserved f w ≡ false = sym (by_sign f w e s he z hs) ∙ p in
      let x : eqb (exponent_of f w) 0 ≡ true = eq-eqb (exponent_of f w) 0 (sym he ∙ z) in
      let q : eqb (sign_of f w) 1 ≡ false = ap (λ (y : ℕ). eqb y 1) (sym hs) ∙ p in
      record {
        kind = sym (simp r);
        bits = zero_bits ∙ sym (by_tests (is_reserved f w) (eqb (exponent_of f w) 0) (w % 16)
            (double_bits f (sign_of f w) (exponent_of f w) (fraction_of f w)) r x);
        value =
            subst (λ (k : ℕ). HasValue (of_bits binary64 0) (eqb (sign_of f w) 1) k (2 ^ (f.bits + f.excess))) (sym (size_none f w (sym he ∙ z)))
            (zero-value (eqb (sign_of f w) 1) (2 ^ (f.bits + f.excess)) q);
      }

  pub shows-number : (x : Float) (e : ℕ) → e ≡ exponent_of f w → (e ≡ 0 → ⊥) → Reads f w x → Shows f w (Number x)
  shows-number x e he ne R =
      let z : (exponent_of f w ≡ 0 → ⊥) = λ y. ne (he ∙ y) in
      let y : eqb (exponent_of f w) 0 ≡ false = ne_eqb (exponent_of f w) 0 z in
      record {
        kind = sym (simp y);
        bits = R.bits ∙ sym (simp y);
        value = subst (λ (k : ℕ). HasValue x (eqb (sign_of f w) 1) k (2 ^ (f.bits + f.excess))) (sym (size-some f w z)) R.value;
      }

-- ---- a longword
pub shows-longword : (w : ℕ) (r : ℤ) → Fits w32 w → r ≡ to_z w32 w
    → (Longword (to_z w32 (of_z w32 r)) ≡ longword_reading w) × (low32 (to_z w32 (of_z w32 r)) ≡ w)
shows-longword w r f h =
    let l : w < 2 ^ 32 = f.fits in
    let e : to_z w32 (of_z w32 r) ≡ signed w = ap (to_z w32) (ap (of_z w32) h ∙ of_z-to_z w32 w f) ∙ signed_is w l in
    (ap Longword e, ap low32 e ∙ low32-signed w l)
