-- Of two numbers of a format that with the larger magnitude is the larger, up to their signs. Over the format. Assumes nothing.
use Rattle.std.proofs.Common.{◌≡◌, ℕ, suc, ◌+◌, ◌-◌, ◌*◌, ◌/◌, ◌%◌, ◌^◌, ◌<◌, ◌≤◌, ◌⊎◌, sym, refl, ap, ◌∙◌, subst, inl, inr, le_of_eq, lt_of_lt_of_le, lt_of_le_of_lt, le_of_lt, mul-le-mul_right, mod-lt, mul_assoc, suc-mul, mul_comm, eq-zero-or-pos, mul-le-mul, eq-or-lt_of_le, mul-lt-mul_of_pos_right, mul-pos, div-add-mod', mul-one, arith, pow_pos, pow_mono, pow-add, eq-eqb, ne_eqb}
use lib.Arith.{digits_div, digits_mod}
use Rattle.floating.specs.Format.{Format, exponent_of, significand_of}
use Rattle.floating.specs.Exact.{size_of}
use Rattle.floating.specs.Working.{magnitude, size_at, rank}
use Rattle.floating.proofs.Products.{size_none, size-some}
use Rattle.floating.proofs.Packing.{Sound, fraction-lt}

-- ---- two sizes, at the smaller exponent
pub apart : (m ea eb d : ℕ) → eb + d ≡ ea → m * 2 ^ ea ≡ m * 2 ^ d * 2 ^ eb
apart m ea eb d e = ap (λ (z : ℕ). m * z) (ap (λ (z : ℕ). 2 ^ z) (sym e) ∙ pow-add 2 eb d ∙ mul_comm (2 ^ eb) (2 ^ d)) ∙ sym (mul_assoc m (2 ^ d) (2 ^ eb))

less-apart : (a b ea eb d : ℕ) → eb + d ≡ ea → b < a * 2 ^ d → b * 2 ^ eb < a * 2 ^ ea
less-apart a b ea eb d e h = lt_of_lt_of_le (mul-lt-mul_of_pos_right h (pow_pos eb)) (le_of_eq (sym (apart a ea eb d e)))

-- of two significands that with the larger exponent is the larger number
pub larger : (q a b d : ℕ) → q ≤ a → b < q * 2 → 0 < d → b < a * 2 ^ d
larger q a b d lo hi h = lt_of_lt_of_le hi (mul-le-mul lo (pow_mono {i = 1} {j = d} h))

-- numbers in two digits, of which the lower counts to q
module _ (q ea xa eb xb : ℕ) (Q : 0 < q) (ha : xa < q) (hb : xb < q) where
  first-less : eb * q + xb < ea * q + xa → eb ≤ ea
  first-less h = go (eq-zero-or-pos (eb - ea))
    where
      go : (eb - ea ≡ 0) ⊎ (0 < eb - ea) → eb ≤ ea
      go (inl z) = omega arith
      go (inr p) =
          let l : suc ea ≤ eb = omega arith in
          let m : suc ea * q ≤ eb * q = mul-le-mul_right q l in
          let s : suc ea * q ≡ ea * q + q = suc-mul ea q in
          absurd (omega arith)

  rest-less : eb * q + xb < ea * q + xa → eb ≡ ea → xb < xa
  rest-less h e = let m : eb * q ≡ ea * q = ap (λ (z : ℕ). z * q) e in omega arith

  -- as the exponents and the fractions of two numbers
  digits-larger : eb * q + xb < ea * q + xa → (eb ≤ ea) × (q + xb < (q + xa) * 2 ^ (ea - eb))
  digits-larger h = (first-less h, go (eq-or-lt_of_le (first-less h)))
    where
      go : (eb ≡ ea) ⊎ (eb < ea) → q + xb < (q + xa) * 2 ^ (ea - eb)
      go (inl e) =
          let z : ea - eb ≡ 0 = omega arith in
          let p : (q + xa) * 2 ^ (ea - eb) ≡ q + xa = ap (λ (y : ℕ). (q + xa) * 2 ^ y) z ∙ mul-one (q + xa) in
          let r = rest-less h e in
          lt_of_lt_of_le (omega arith) (le_of_eq (sym p))
      go (inr g) = larger q (q + xa) (q + xb) (ea - eb) (omega arith) (omega arith) (omega arith)

-- ---- sizes by their magnitudes
module _ (f : Format) (k l : ℕ) where
  abbrev q : ℕ
  q = 2 ^ (f.bits - 1)

  pub larger-at : l < k → (l / q ≤ k / q) × (q + l % q < (q + k % q) * 2 ^ (k / q - l / q))
  larger-at h =
      let Q : 0 < q = pow_pos (f.bits - 1) in
      digits-larger q (k / q) (k % q) (l / q) (l % q) Q (mod-lt k Q) (mod-lt l Q)
      (lt_of_le_of_lt (le_of_eq (div-add-mod' l q)) (lt_of_lt_of_le h (le_of_eq (sym (div-add-mod' k q)))))

  pub size_less : l < k → size_at f l < size_at f k
  size_less h =
      let o = larger-at h in
      let r : l / q ≤ k / q = o.0 in
      let e : l / q + (k / q - l / q) ≡ k / q = omega arith in
      less-apart (q + k % q) (q + l % q) (k / q) (l / q) (k / q - l / q) e o.1

  -- no larger, either way
  pub at_most : l ≤ k → (size_at f l ≤ size_at f k) × (q + l % q ≤ (q + k % q) * 2 ^ (k / q - l / q))
  at_most h = go (eq-or-lt_of_le h)
    where
      none : (x y : ℕ) → y ≡ x → x - y ≡ 0
      none x y e = omega arith

      go : (l ≡ k) ⊎ (l < k) → (size_at f l ≤ size_at f k) × (q + l % q ≤ (q + k % q) * 2 ^ (k / q - l / q))
      go (inl e) =
          let z : k / q - l / q ≡ 0 = none (k / q) (l / q) (ap (λ (y : ℕ). y / q) e) in
          (le_of_eq (ap (size_at f) e), le_of_eq (ap (λ (y : ℕ). q + y % q) e ∙ sym (ap (λ (y : ℕ). (q + k % q) * 2 ^ y) z ∙ mul-one (q + k % q))))
      go (inr g) = (le_of_lt (size_less g), le_of_lt (larger-at g).1)

module _ (f : Format) (S : Sound f) where
  -- the magnitude of a word gives its size
  pub sized : (w k : ℕ) → k ≡ magnitude f w → (exponent_of f w ≡ 0 → ⊥) → size_at f k ≡ size_of f w
  sized w k hk n =
      let q = 2 ^ (f.bits - 1) in
      ap (size_at f) hk
      ∙ ap (λ (y : ℕ). (q + y) * 2 ^ (magnitude f w / q)) (digits_mod (exponent_of f w) (fraction-lt f S w))
      ∙ ap (λ (y : ℕ). significand_of f w * 2 ^ y) (digits_div (exponent_of f w) (fraction-lt f S w))
      ∙ sym (size-some f w n)

  module _ (a b : ℕ) where
    larger-size : 0 < exponent_of f a → 0 < exponent_of f b → magnitude f b < magnitude f a → size_of f b < size_of f a
    larger-size na nb h =
        subst (λ (z : ℕ). z < size_of f a) (sized b (magnitude f b) refl (λ z. omega arith))
        (subst (λ (z : ℕ). size_at f (magnitude f b) < z) (sized a (magnitude f a) refl (λ z. omega arith)) (size_less f (magnitude f a) (magnitude f b) h))

  -- ---- the rank, which knows zero
  pub size-pos : (w : ℕ) → 0 < exponent_of f w → 0 < size_of f w
  size-pos w h = subst (λ (z : ℕ). 0 < z) (sym (size-some f w (λ z. omega arith))) (mul-pos some (pow_pos (exponent_of f w)))
    where
      some : 0 < significand_of f w
      some = let p = pow_pos (f.bits - 1) in omega arith

  pub zero_rank : (w : ℕ) → exponent_of f w ≡ 0 → rank f w ≡ 0
  zero_rank w z = simp (eq-eqb (exponent_of f w) 0 z)

  pub full-rank : (w : ℕ) → 0 < exponent_of f w → rank f w ≡ magnitude f w
  full-rank w h = let n : (exponent_of f w ≡ 0 → ⊥) = λ z. omega arith in simp (ne_eqb (exponent_of f w) 0 n)

  module _ (a b : ℕ) where
    pub rank_less : rank f b < rank f a → size_of f b < size_of f a
    rank_less h = go (eq-zero-or-pos (exponent_of f a)) (eq-zero-or-pos (exponent_of f b))
      where
        never : (x y : ℕ) → x < y → y ≡ 0 → ⊥
        never x y l e = omega arith

        go : (exponent_of f a ≡ 0) ⊎ (0 < exponent_of f a) → (exponent_of f b ≡ 0) ⊎ (0 < exponent_of f b) → size_of f b < size_of f a
        go (inl p) q = absurd (never (rank f b) (rank f a) h (zero_rank a p))
        go (inr p) (inl q) = subst (λ (z : ℕ). z < size_of f a) (sym (size_none f b q)) (size-pos a p)
        go (inr p) (inr q) = larger-size a b p q (subst (λ (z : ℕ). z < magnitude f a) (full-rank b q) (subst (λ (z : ℕ). rank f b < z) (full-rank a p) h))

    pub rank_same : rank f a ≡ rank f b → size_of f a ≡ size_of f b
    rank_same h = go (eq-zero-or-pos (exponent_of f a)) (eq-zero-or-pos (exponent_of f b))
      where
        some : (w : ℕ) → 0 < exponent_of f w → rank f w ≡ 0 → ⊥
        some w p z =
            let m : magnitude f w ≡ 0 = sym (full-rank w p) ∙ z in
            let l : 0 < exponent_of f w * 2 ^ (f.bits - 1) = mul-pos p (pow_pos (f.bits - 1)) in
            omega arith

        go : (exponent_of f a ≡ 0) ⊎ (0 < exponent_of f a) → (exponent_of f b ≡ 0) ⊎ (0 < exponent_of f b) → size_of f a ≡ size_of f b
        go (inl p) (inl q) = size_none f a p ∙ sym (size_none f b q)
        go (inl p) (inr q) = absurd (some b q (sym h ∙ zero_rank a p))
        go (inr p) (inl q) = absurd (some a p (h ∙ zero_rank b q))
        go (inr p) (inr q) =
            sym (sized a (magnitude f a) refl (λ z. omega arith))
            ∙ ap (size_at f) (sym (full-rank a p) ∙ h ∙ full-rank b q)
            ∙ sized b (magnitude f b) refl (λ z. omega arith)
