-- Less and equal, by the true difference.
use Rattle.std.proofs.Common.{◌≡◌, ℕ, ◌+◌, ◌*◌, ◌%◌, ◌^◌, ◌<◌, Bool, true, false, eqb, ltb, sym, refl, ap, ◌∙◌, add_comm, arith, ltb-false, ltb-true, le-ltb, lt-ltb, eq-eqb, ne_eqb, eqb-true}
use borrow.Author.Tests.{eqb-false}
use Rattle.numbers.specs.Halves.{low}
use Rattle.numbers.specs.Signed.{negative, is_zero}
use Rattle.numbers.proofs.Differences.{negative_of, zero_of}
use Rattle.longword.specs.Longword.{is_less, is_equal}
use Rattle.longword.proofs.Forms.{excess, difference-form, moves}

less-moved : (p q : ℕ) (t : Bool) → ltb p q ≡ t → t ≡ ltb (p + 2 ^ 31) (2 ^ 31 + q)
less-moved p q true e = let h = ltb-true p q e in sym (lt-ltb (p + 2 ^ 31) (2 ^ 31 + q) (omega arith))
less-moved p q false e = let h = ltb-false p q e in sym (le-ltb (p + 2 ^ 31) (2 ^ 31 + q) (omega arith))

once : (x y p q t u : ℕ) → x < 2 ^ 32 → y < 2 ^ 32 → p + t * 2 ^ 32 ≡ x + 2 ^ 31 → q + u * 2 ^ 32 ≡ y + 2 ^ 31 → p + 2 ^ 31 ≡ 2 ^ 31 + q → x ≡ y
once x y p q t u hx hy e f g = omega arith

equal-moved : (x y : ℕ) (t : Bool) → x < 2 ^ 32 → y < 2 ^ 32 → eqb x y ≡ t → t ≡ eqb ((x + 2 ^ 31) % 2 ^ 32 + 2 ^ 31) (2 ^ 31 + (y + 2 ^ 31) % 2 ^ 32)
equal-moved x y true hx hy e = rw (eqb-true x y e) (sym (eq-eqb _ _ (add_comm ((y + 2 ^ 31) % 2 ^ 32) (2 ^ 31))))
equal-moved x y false hx hy e = sym (ne_eqb _ _ (λ f. eqb-false x y e (once x y _ _ _ _ hx hy (moves x hx) (moves y hy) f)))

module _ (a b : ℕ) where
  pub is-less : (p q : ℕ) → p ≡ excess a → q ≡ excess b → ltb p q ≡ is_less a b
  is-less p q e f =
      less-moved p q (ltb p q) refl ∙ rw (e, f) (sym (ap negative (difference-form a b) ∙ negative_of (excess a + 2 ^ 31) (2 ^ 31 + excess b)))

  pub is-equal : eqb (low a) (low b) ≡ is_equal a b
  is-equal =
      equal-moved (low a) (low b) (eqb (low a) (low b)) (omega arith) (omega arith) refl
      ∙ sym (ap is_zero (difference-form a b) ∙ zero_of (excess a + 2 ^ 31) (2 ^ 31 + excess b))
