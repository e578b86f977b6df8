-- How two words lie to each other, by their signs and ranks. Assumes nothing.
use Rattle.std.proofs.Common.{◌≡◌, ℕ, zero, suc, ◌+◌, ◌-◌, ◌*◌, ◌/◌, ◌%◌, ◌^◌, ◌<◌, ◌≤◌, Bool, true, false, not, ◌&&◌, ◌||◌, eqb, ltb, leb, ◌⊎◌, sym, refl, ap, ◌∙◌, ap₂, inl, inr, le_of_eq, le_of_lt, mul-le-mul_right, eq-zero-or-pos, mul-lt-mul_of_pos_right, mul-pos, one-mul, zero-mul, arith, pow_pos, le-ltb, lt-ltb, eq-eqb, ne_eqb, le-leb}
use lib.Arith.{digits_lt}
use borrow.Author.Tests.{eqb-false, lt-leb}
use Rattle.std.specs.declared.cmp.Ordering.{Ordering}
use Rattle.std.specs.declared.cmp.Ordering.TheVariants.{Less, Equal, Greater}
use Rattle.std.proofs.lemmas.Cmp.{nat_cmp_total}
use Rattle.std.specs.Ordering.{nat_cmp, ordering_reverse, is_lt, is_eq, is_gt}
use mathlib.Core.Bool.{beq}
use Rattle.numbers.specs.Choice.{pick}
use Rattle.numbers.proofs.Relations.{by_parts_lem}
use Rattle.numbers.specs.Relation.{relation_holds}
use Rattle.floating.specs.Format.{Format, F, sign_of, exponent_of, is_reserved}
use Rattle.floating.specs.declared.Compared.{Compared}
use Rattle.floating.specs.Exact.{Exact, size_of, value_of, minus}
use Rattle.floating.specs.Operations.{compared}
use Rattle.floating.specs.Working.{swapped, magnitude, magnitudes, ordinal, rank, level, lies, naming}
use Rattle.floating.proofs.Packing.{Sound, sign-lt, exponent_lt, fraction-lt, swapped-split}
use Rattle.floating.proofs.Magnitude.{size-pos, zero_rank, full-rank, rank_less, rank_same}
use Rattle.floating.proofs.Sums.{Test, same, less, more, order, signs, together-same, together-more, together-less}

-- ---- how an exact number lies to zero
-- one that is not zero, by its sign
abbrev signed : ℕ → Ordering
signed s = pick (eqb s 1) Less Greater

lies-zero : (x : Exact) → x.num ≡ 0 → lies x ≡ Equal
lies-zero x h = simp (eq-eqb x.num 0 h)

lies-some : (x : Exact) → (x.num ≡ 0 → ⊥) → lies x ≡ signed x.sign
lies-some x n = simp (ne_eqb x.num 0 n)

module _ (f : Format) (S : Sound f) where
  -- a number that is not reserved has sign 1 only with a size
  signed-size : (w : ℕ) → is_reserved f w ≡ false → sign_of f w ≡ 1 → 0 < size_of f w
  signed-size w h s = go (eq-zero-or-pos (exponent_of f w))
    where
      go : (exponent_of f w ≡ 0) ⊎ (0 < exponent_of f w) → 0 < size_of f w
      go (inl z) =
          let r : is_reserved f w ≡ true = simp (eq-eqb (exponent_of f w) 0 z, eq-eqb (sign_of f w) 1 s) in
          let c : ◌≡◌ {A = ℕ} 0 1 = cc in
          absurd (omega arith)
      go (inr p) = size-pos f S w p

  -- the unit of an exact difference, and such a difference
  abbrev unit : ℕ
  unit = 2 ^ (f.bits + f.excess)

  abbrev exact : ℕ → ℕ → Exact
  exact s n = record { sign = s; num = n; den = unit * unit }

  module _ (a b : ℕ) (ra : is_reserved f a ≡ false) (rb : is_reserved f b ≡ false) where
    abbrev sa : ℕ
    sa = sign_of f a

    abbrev sb : ℕ
    sb = sign_of f b

    abbrev x : ℕ
    x = size_of f a * unit

    abbrev y : ℕ
    y = size_of f b * unit

    abbrev here : Ordering
    here = lies (minus (value_of f a) (value_of f b))

    signs_apart : (sa ≡ sb → ⊥) → signed sa ≡ here
    signs_apart n =
        let e : sa ≡ 1 - sb = omega (arith, n) in
        sym (ap lies (together-same sa x (1 - sb) y (unit * unit) e) ∙ lies-some (exact sa (x + y)) (some (one_of (eq-zero-or-pos sa))))
      where
        one_of : (sa ≡ 0) ⊎ (0 < sa) → (0 < x) ⊎ (0 < y)
        one_of (inl z) = inr (mul-pos (signed-size b rb (omega (arith, n))) (pow_pos (f.bits + f.excess)))
        one_of (inr p) = inl (mul-pos (signed-size a ra (omega arith)) (pow_pos (f.bits + f.excess)))

        some : (0 < x) ⊎ (0 < y) → x + y ≡ 0 → ⊥
        some (inl p) z = omega arith
        some (inr p) z = omega arith

    module _ (same : sa ≡ sb) where
      differ : sa ≡ 1 - sb → ⊥
      differ e = omega arith

      scaled : (m n : ℕ) → m < n → m * unit < n * unit
      scaled m n l = mul-lt-mul_of_pos_right l (pow_pos (f.bits + f.excess))

      left_over : (m n : ℕ) → n < m → m - n ≡ 0 → ⊥
      left_over m n l z = omega arith

      ranks-equal : rank f a ≡ rank f b → Equal ≡ here
      ranks-equal e =
          let z : x ≡ y = ap (λ (k : ℕ). k * unit) (rank_same f S a b e) in
          sym (ap lies (together-less sa x (1 - sb) y (unit * unit) differ (le_of_eq z)) ∙ lies-zero (exact (1 - sb) (y - x)) (gone x y z))
        where
          gone : (m n : ℕ) → m ≡ n → n - m ≡ 0
          gone m n e = omega arith

      ranks-more : rank f b < rank f a → signed sa ≡ here
      ranks-more l =
          let z : y < x = scaled (size_of f b) (size_of f a) (rank_less f S a b l) in
          sym (ap lies (together-more sa x (1 - sb) y (unit * unit) differ z) ∙ lies-some (exact sa (x - y)) (left_over x y z))

      ranks-less : rank f a < rank f b → signed (1 - sa) ≡ here
      ranks-less l =
          let z : x < y = scaled (size_of f a) (size_of f b) (rank_less f S b a l) in
          let w : 1 - sa ≡ 1 - sb = omega arith in
          let d = together-less sa x (1 - sb) y (unit * unit) differ (le_of_lt z) in
          ap signed w ∙ sym (ap lies d ∙ lies-some (exact (1 - sb) (y - x)) (left_over y x z))

  -- ---- by the levels
  rank_lt : (w : ℕ) → rank f w < magnitudes f
  rank_lt w = go (eqb (exponent_of f w) 0)
    where
      fields : exponent_of f w < f.largest + 1
      fields = let e = exponent_lt f S w in let r = S.range in omega arith

      go : (t : Bool) → pick t 0 (magnitude f w) < magnitudes f
      go true = mul-pos {m = f.largest + 1} {n = 2 ^ (f.bits - 1)} (omega arith) (pow_pos (f.bits - 1))
      go false = digits_lt fields (fraction-lt f S w)

  -- the level of a number that is not reserved
  level-is : (w : ℕ) → is_reserved f w ≡ false → level f w ≡ sign_of f w * magnitudes f + rank f w
  level-is w n = go (eq-zero-or-pos (exponent_of f w))
    where
      q : ℕ
      q = 2 ^ (f.bits - 1)

      sign-none : exponent_of f w ≡ 0 → sign_of f w ≡ 0
      sign-none z =
          let s : eqb (sign_of f w) 1 ≡ false = ap (λ (t : Bool). pick t (eqb (sign_of f w) 1) false) (sym (eq-eqb (exponent_of f w) 0 z)) ∙ n in
          let d : (sign_of f w ≡ 1 → ⊥) = eqb-false (sign_of f w) 1 s in
          omega (arith, d)

      bare : (m : ℕ) → sign_of f w ≡ 0 → sign_of f w * magnitudes f + m ≡ m
      bare m z = let e : sign_of f w * magnitudes f ≡ 0 = ap (λ (k : ℕ). k * magnitudes f) z ∙ zero-mul (magnitudes f) in omega arith

      go : (exponent_of f w ≡ 0) ⊎ (0 < exponent_of f w) → level f w ≡ sign_of f w * magnitudes f + rank f w
      go (inl z) =
          let x = fraction-lt f S w in
          let none : exponent_of f w * q ≡ 0 = ap (λ (k : ℕ). k * q) z ∙ zero-mul q in
          let s = sign-none z in
          let row : ordinal f w ≡ magnitude f w = bare (magnitude f w) s in
          let small : ordinal f w < q = omega arith in
          ap (λ (t : Bool). pick t 0 (ordinal f w)) (lt-ltb (ordinal f w) q small) ∙ sym (bare (rank f w) s ∙ zero_rank f S w z)
      go (inr p) =
          let one : 1 * q ≤ exponent_of f w * q = mul-le-mul_right q p in
          let e : 1 * q ≡ q = one-mul q in
          let large : q ≤ ordinal f w = omega arith in
          ap (λ (t : Bool). pick t 0 (ordinal f w)) (le-ltb (ordinal f w) q large) ∙ ap (λ (z : ℕ). sign_of f w * magnitudes f + z) (sym (full-rank f S w p))

pub level-made : (w t r : ℕ) → w < 2 ^ 32 → t ≡ swapped w → r ≡ pick (ltb t (2 ^ (F.bits - 1))) 0 t → r ≡ level F w
level-made w t r l ht hr = hr ∙ ap (λ (z : ℕ). pick (ltb z (2 ^ (F.bits - 1))) 0 z) (ht ∙ swapped-split w l)

-- the order of two levels
reversed : (i j : ℕ) → nat_cmp j i ≡ ordering_reverse (nat_cmp i j)
reversed i j = nat_cmp_total.antisymm j i

module _ (x y : ℕ) where
  rising-less : x < y → nat_cmp x y ≡ Less
  rising-less h = simp (lt-ltb x y h)

  rising-same : x ≡ y → nat_cmp x y ≡ Equal
  rising-same e = simp (le-ltb x y (le_of_eq (sym e)), eq-eqb x y e)

  rising-more : y < x → nat_cmp x y ≡ Greater
  rising-more h = let n : (x ≡ y → ⊥) = λ e. omega arith in simp (le-ltb x y (le_of_lt h), ne_eqb x y n)

  -- numbers from n on have the sign
  module _ (n : ℕ) (r : Ordering) (hr : r ≡ pick (leb n x || leb n y) (ordering_reverse (nat_cmp x y)) (nat_cmp x y)) where
    both-up : (k : Ordering) → x < n → y < n → nat_cmp x y ≡ k → r ≡ k
    both-up k hx hy e =
        hr
        ∙ ap₂ (λ (s t : Bool). pick (s || t) (ordering_reverse (nat_cmp x y)) (nat_cmp x y)) (lt-leb n x hx) (lt-leb n y hy)
        ∙ e

    one_down : (k : Ordering) → (leb n x || leb n y) ≡ true → nat_cmp x y ≡ k → r ≡ ordering_reverse k
    one_down k t e = hr ∙ ap (λ (z : Bool). pick z (ordering_reverse (nat_cmp x y)) (nat_cmp x y)) t ∙ ap ordering_reverse e

    left_down : n ≤ x → (leb n x || leb n y) ≡ true
    left_down h = ap (λ (z : Bool). z || leb n y) (le-leb n x h)

    right-down : n ≤ y → (leb n x || leb n y) ≡ true
    right-down h = ap (λ (z : Bool). leb n x || z) (le-leb n y h) ∙ either (leb n x)
      where
        either : (t : Bool) → (t || true) ≡ true
        either true = refl
        either false = refl

    module _ (s t u v : ℕ) (hx : x ≡ s * n + u) (hy : y ≡ t * n + v) (hs : s < 2) (ht : t < 2) (hu : u < n) (hv : v < n) where
      -- a number without the sign, and with it
      up : (k m i : ℕ) → k ≡ i * n + m → i ≡ 0 → k ≡ m
      up k m i e z = let g : i * n ≡ 0 = ap (λ (j : ℕ). j * n) z ∙ zero-mul n in omega arith

      down : (k m i : ℕ) → k ≡ i * n + m → i ≡ 1 → k ≡ n + m
      down k m i e z = let g : i * n ≡ n = ap (λ (j : ℕ). j * n) z ∙ one-mul n in omega arith

      by-signs : (s ≡ t → ⊥) → r ≡ signed s
      by-signs d = go (eq-zero-or-pos s)
        where
          go : (s ≡ 0) ⊎ (0 < s) → r ≡ signed s
          go (inl z) =
              let a = up x u s hx z in
              let b = down y v t hy (omega (arith, d)) in
              one_down Less (right-down (omega arith)) (rising-less (omega arith)) ∙ ap signed (sym z)
          go (inr o) =
              let e : s ≡ 1 = omega arith in
              let a = down x u s hx e in
              let b = up y v t hy (omega (arith, d)) in
              one_down Greater (left_down (omega arith)) (rising-more (omega arith)) ∙ ap signed (sym e)

      -- either way
      by-ranks : (k : Ordering) → s ≡ t → nat_cmp x y ≡ k → r ≡ pick (eqb s 1) (ordering_reverse k) k
      by-ranks k e w = go (eq-zero-or-pos s)
        where
          go : (s ≡ 0) ⊎ (0 < s) → r ≡ pick (eqb s 1) (ordering_reverse k) k
          go (inl z) =
              let a = up x u s hx z in
              let b = up y v t hy (sym e ∙ z) in
              both-up k (omega arith) (omega arith) w ∙ ap (λ (j : ℕ). pick (eqb j 1) (ordering_reverse k) k) (sym z)
          go (inr o) =
              let i : s ≡ 1 = omega arith in
              let a = down x u s hx i in
              one_down k (left_down (omega arith)) w ∙ ap (λ (j : ℕ). pick (eqb j 1) (ordering_reverse k) k) (sym i)

module _ (f : Format) (S : Sound f) (a b x y : ℕ) (r : Ordering) (na : is_reserved f a ≡ false) (nb : is_reserved f b ≡ false)
    (hx : x ≡ level f a) (hy : y ≡ level f b) where
  order-found : r ≡ pick (leb (magnitudes f) x || leb (magnitudes f) y) (ordering_reverse (nat_cmp x y)) (nat_cmp x y)
      → r ≡ lies (minus (value_of f a) (value_of f b))
  order-found hr = go (signs s t) (order (rank f a) (rank f b))
    where
      s : ℕ
      s = sign_of f a

      t : ℕ
      t = sign_of f b

      ex : x ≡ s * magnitudes f + rank f a
      ex = hx ∙ level-is f S a na

      ey : y ≡ t * magnitudes f + rank f b
      ey = hy ∙ level-is f S b nb

      told : s ≡ t → s * magnitudes f ≡ t * magnitudes f
      told e = ap (λ (k : ℕ). k * magnitudes f) e

      ranked : (k o : Ordering) → s ≡ t → nat_cmp x y ≡ k → pick (eqb s 1) (ordering_reverse k) k ≡ o → r ≡ o
      ranked k o e w h =
          by-ranks x y (magnitudes f) r hr s t (rank f a) (rank f b) ex ey (sign-lt f a) (sign-lt f b) (rank_lt f S a) (rank_lt f S b) k e w ∙ h

      turned : (s : ℕ) → s < 2 → pick (eqb s 1) Greater Less ≡ signed (1 - s)
      turned zero l = refl
      turned (suc zero) l = refl
      turned (suc (suc k)) l = absurd (omega arith)

      alike : (t : Bool) → pick t Equal Equal ≡ Equal
      alike true = refl
      alike false = refl

      go : (s ≡ t) ⊎ (s ≡ t → ⊥) → Test (rank f a) (rank f b) → r ≡ lies (minus (value_of f a) (value_of f b))
      go (inr n) o =
          by-signs x y (magnitudes f) r hr s t (rank f a) (rank f b) ex ey (sign-lt f a) (sign-lt f b) (rank_lt f S a) (rank_lt f S b) n
          ∙ signs_apart f S a b na nb n
      go (inl e) (same h) =
          let m = told e in
          ranked Equal Equal e (rising-same x y (omega (arith, ex, ey))) (alike (eqb s 1)) ∙ ranks-equal f S a b na nb e h
      go (inl e) (more h) =
          let m = told e in
          ranked Greater (signed s) e (rising-more x y (omega (arith, ex, ey))) refl ∙ ranks-more f S a b na nb e h
      go (inl e) (less h) =
          let m = told e in
          ranked Less (signed (1 - s)) e (rising-less x y (omega (arith, ex, ey))) (turned s (sign-lt f a)) ∙ ranks-less f S a b na nb e h

  -- as the code has it: the two change sides
  pub order-chosen : (p q : ℕ) (t : Bool) → t ≡ (leb (magnitudes f) x || leb (magnitudes f) y) → p ≡ pick t y x → q ≡ pick t x y → r ≡ nat_cmp p q
      → r ≡ lies (minus (value_of f a) (value_of f b))
  order-chosen p q t ht hp hq hr =
      order-found (hr ∙ ap₂ nat_cmp hp hq ∙ go t ∙ ap (λ (z : Bool). pick z (ordering_reverse (nat_cmp x y)) (nat_cmp x y)) ht)
    where
      go : (t : Bool) → nat_cmp (pick t y x) (pick t x y) ≡ pick t (ordering_reverse (nat_cmp x y)) (nat_cmp x y)
      go true = reversed x y
      go false = refl

-- ---- the relation, and the answer
-- how two numbers lie, by bits <1:0>, and bit <2> for the opposite
abbrev pub by-order : ℕ → Ordering → Bool
by-order k o = eqb k 0 && not (is_lt o || is_eq o) || eqb k 1 && is_eq o || eqb k 2 && is_lt o

-- the relation that names an order is the one that holds of it
pub one-named : (o : Ordering) (k : ℕ) → k < 4 → eqb (naming o) k ≡ by-order k o
one-named Less zero l = refl
one-named Less (suc zero) l = refl
one-named Less (suc (suc zero)) l = refl
one-named Less (suc (suc (suc zero))) l = refl
one-named Less (suc (suc (suc (suc k)))) l = absurd (omega arith)
one-named Equal zero l = refl
one-named Equal (suc zero) l = refl
one-named Equal (suc (suc zero)) l = refl
one-named Equal (suc (suc (suc zero))) l = refl
one-named Equal (suc (suc (suc (suc k)))) l = absurd (omega arith)
one-named Greater zero l = refl
one-named Greater (suc zero) l = refl
one-named Greater (suc (suc zero)) l = refl
one-named Greater (suc (suc (suc zero))) l = refl
one-named Greater (suc (suc (suc (suc k)))) l = absurd (omega arith)

pub named-holds : (relation k : ℕ) (o : Ordering) (t : Bool) → relation % 4 ≡ k → t ≡ by-order k o
    → not (beq t (eqb (relation / 4 % 2) 1)) ≡ relation_holds relation (is_lt o) (is_eq o)
named-holds relation k o t e h =
    ap (λ (z : Bool). not (beq z (eqb (relation / 4 % 2) 1))) (h ∙ ap (λ (n : ℕ). by-order n o) (sym e)) ∙ by_parts_lem relation (is_lt o) (is_eq o)

lies-less : (x : Exact) → is_lt (lies x) ≡ (not (eqb x.num 0) && eqb x.sign 1)
lies-less x = go (eqb x.num 0) (eqb x.sign 1)
  where
    go : (none negative : Bool) → is_lt (pick none Equal (pick negative Less Greater)) ≡ (not none && negative)
    go true n = refl
    go false true = refl
    go false false = refl

lies-equal : (x : Exact) → is_eq (lies x) ≡ eqb x.num 0
lies-equal x = go (eqb x.num 0) (eqb x.sign 1)
  where
    go : (none negative : Bool) → is_eq (pick none Equal (pick negative Less Greater)) ≡ none
    go true n = refl
    go false true = refl
    go false false = refl

module _ (f : Format) (relation a b : ℕ) (t u : Bool) (ht : t ≡ is_reserved f a) (hu : u ≡ is_reserved f b) where
  pub compare-reserved : (t || u) ≡ true → record { bit = false; types = 4 } ≡ compared f relation a b
  compare-reserved h = go (is_reserved f a) (is_reserved f b) (record { bit = false; types = 4 }) _ (sym (ap₂ (λ (x y : Bool). x || y) ht hu) ∙ h)
    where
      go : (x y : Bool) (r n : Compared) → (x || y) ≡ true → r ≡ pick x r (pick y r n)
      go true y r n e = refl
      go false true r n e = refl
      go false false r n e = let c : ◌≡◌ {A = ℕ} 0 1 = cc in absurd (omega arith)

  pub neither-reserved : (t || u) ≡ false → (is_reserved f a ≡ false) × (is_reserved f b ≡ false)
  neither-reserved h = go (is_reserved f a) (is_reserved f b) (sym (ap₂ (λ (x y : Bool). x || y) ht hu) ∙ h)
    where
      go : (x y : Bool) → (x || y) ≡ false → (x ≡ false) × (y ≡ false)
      go true y e = let c : ◌≡◌ {A = ℕ} 0 1 = cc in absurd (omega arith)
      go false true e = let c : ◌≡◌ {A = ℕ} 0 1 = cc in absurd (omega arith)
      go false false e = (refl, refl)

  pub compare-both : (v : Bool) (o : Ordering) → (t || u) ≡ false → o ≡ lies (minus (value_of f a) (value_of f b))
      → v ≡ relation_holds relation (is_lt o) (is_eq o) → record { bit = v; types = 0 } ≡ compared f relation a b
  compare-both v o n ho hv =
      let r = neither-reserved n in
      let d = minus (value_of f a) (value_of f b) in
      ap (λ (z : Bool). record { bit = z; types = 0 })
      (hv ∙ ap₂ (relation_holds relation) (ap is_lt ho ∙ lies-less d) (ap is_eq ho ∙ lies-equal d))
      ∙ sym (simp (r.0, r.1))
