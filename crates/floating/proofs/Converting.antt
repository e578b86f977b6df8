-- A number of the format made whole, as the code works it out, and a whole number as a word. Assumes nothing.
use Rattle.std.proofs.Common.{◌≡◌, ℕ, zero, suc, ◌+◌, ◌-◌, ◌*◌, ◌/◌, ◌%◌, ◌^◌, ◌<◌, ◌≤◌, Bool, true, false, ◌&&◌, ◌||◌, eqb, ltb, leb, ◌⊎◌, pos, neg_ℤ, sym, refl, ap, ◌∙◌, subst, ap₂, inl, inr, le_trans, le_of_eq, lt_of_lt_of_le, add-zero, le_of_lt, mul_assoc, mul_comm, add-mul, eq-zero-or-pos, mul-le-mul, mul-pos, one-mul, zero-mul, mul-one, mul_right_comm, arith, lit<, lit≤, pow_pos, pow_mono, pow-add, le-ltb, lt-ltb, eq-eqb, eqb-true, le-leb}
use native.Mathlib.Nat.{mul-div-mul_right, add-mul-div_right, div-div-eq-div-mul, mul-mod_left, div-eq_of_lt}
use borrow.Author.Tests.{eqb-false, lt-leb}
use Rattle.numbers.specs.Choice.{pick}
use Rattle.numbers.specs.Signed.{signed, low32, overflows}
use Rattle.numbers.proofs.Differences.{sub-pos, sub-neg, signed_top}
use Rattle.floating.specs.declared.Delivery.TheVariants.{Word}
use Rattle.floating.specs.declared.Flagged.{Flagged}
use Rattle.floating.specs.Format.{Format, F, sign_of, exponent_of, significand_of, is_reserved}
use Rattle.floating.specs.Exact.{Exact, size_of, whole, integer}
use Rattle.floating.specs.Round.{near, chopped}
use Rattle.floating.specs.Delivered.{delivered}
use Rattle.floating.specs.Operations.{longword, to_longword, truncated_longword, from_longword}
use Rattle.floating.specs.Working.{swapped, magnitudes, packed, placed, settled, whole_by, StandsFor}
use Rattle.floating.proofs.Arithmetic.{pow-two}
use Rattle.floating.proofs.Delivering.{delivered-zero, delivered-same, placed-settled}
use Rattle.floating.proofs.Products.{size_none, size-fields}
use Rattle.floating.proofs.Packing.{settled_at, swapped-word}
use Rattle.floating.proofs.Refusing.{number-free}

-- ---- the number made whole, by the exponent
multiple : (h y D : ℕ) → 0 < D → h < 2 → (y * D * 2 + h * D) / (D * 2) ≡ y
multiple h y D P l =
    let a : y * D * 2 + h * D ≡ (y * 2 + h) * D =
    ap (λ (z : ℕ). z + h * D) (mul_assoc y D 2 ∙ ap (λ (z : ℕ). y * z) (mul_comm D 2) ∙ sym (mul_assoc y 2 D)) ∙ sym (add-mul (y * 2) h D) in
    ap (λ (z : ℕ). z / (D * 2)) a ∙ ap (λ (z : ℕ). (y * 2 + h) * D / z) (mul_comm D 2) ∙ mul-div-mul_right (y * 2 + h) 2 P ∙ halved h y l
  where
    halved : (h y : ℕ) → h < 2 → (y * 2 + h) / 2 ≡ y
    halved h y l = omega arith

raised : (m e i j : ℕ) → i + j ≡ e → m * 2 ^ e ≡ m * 2 ^ i * 2 ^ j
raised m e i j q = ap (λ (z : ℕ). m * 2 ^ z) (sym q) ∙ ap (λ (z : ℕ). m * z) (pow-add 2 i j) ∙ sym (mul_assoc m (2 ^ i) (2 ^ j))

pub stands : {x n : ℕ} → x ≡ n → StandsFor x n
stands {x} {n} e = record { low = ap (λ (z : ℕ). z % 0x1_0000_0000) e; past = ap (ltb 0x7fff_ffff) e; past-least = ap (ltb 0x8000_0000) e }

-- in units of 2 ^ -w
module _ (w e m h : ℕ) where
  -- the digits of the fraction are cut off, all but the first
  pub cut-whole : (c : ℕ) → e ≤ w → c ≡ m * 2 / 2 ^ (w - e) → (c + h) / 2 ≡ whole_by h (m * 2 ^ e) (2 ^ w)
  cut-whole c l hc =
      let d = w - e in
      let q : d + e ≡ w = omega arith in
      let D : 2 ^ w ≡ 2 ^ d * 2 ^ e = sym (pow-two d e w q) in
      let a : m * 2 ^ e * 2 + h * (2 ^ d * 2 ^ e) ≡ (m * 2 + h * 2 ^ d) * 2 ^ e =
      ap₂ (λ (y z : ℕ). y + z) (mul_right_comm m (2 ^ e) 2) (sym (mul_assoc h (2 ^ d) (2 ^ e))) ∙ sym (add-mul (m * 2) (h * 2 ^ d) (2 ^ e)) in
      ap (λ (z : ℕ). (z + h) / 2) hc
      ∙ ap (λ (z : ℕ). z / 2) (sym (add-mul-div_right (m * 2) h (pow_pos d)))
      ∙ div-div-eq-div-mul (m * 2 + h * 2 ^ d) (2 ^ d) 2
      ∙ sym (mul-div-mul_right (m * 2 + h * 2 ^ d) (2 ^ d * 2) (pow_pos e))
      ∙ ap (λ (z : ℕ). (m * 2 + h * 2 ^ d) * 2 ^ e / z) (mul_right_comm (2 ^ d) 2 (2 ^ e))
      ∙ ap (λ (z : ℕ). z / (2 ^ d * 2 ^ e * 2)) (sym a)
      ∙ ap (λ (z : ℕ). (m * 2 ^ e * 2 + h * z) / (z * 2)) (sym D)

  -- there are no digits of a fraction
  no_fraction : w ≤ e → h < 2 → whole_by h (m * 2 ^ e) (2 ^ w) ≡ m * 2 ^ (e - w)
  no_fraction l hh =
      let q : e - w + w ≡ e = omega arith in
      ap (λ (z : ℕ). (z * 2 + h * 2 ^ w) / (2 ^ w * 2)) (raised m e (e - w) w q) ∙ multiple h (m * 2 ^ (e - w)) (2 ^ w) (pow_pos w) hh

-- from 2 ^ 32 on
pub stands-huge : (m k : ℕ) → 0 < m → 32 ≤ k → StandsFor 4294967296 (m * 2 ^ k)
stands-huge m k lo l =
    let q : k - 32 + 32 ≡ k = omega arith in
    let y = m * 2 ^ (k - 32) in
    let is : m * 2 ^ k ≡ y * 4294967296 = raised m k (k - 32) 32 q in
    let one : 1 ≤ y = mul-pos lo (pow_pos (k - 32)) in
    let big : 4294967296 ≤ y * 4294967296 = omega arith in
    let past : 2147483647 < m * 2 ^ k = lt_of_lt_of_le (lit< tt) (le_trans big (le_of_eq (sym is))) in
    let least : 2147483648 < m * 2 ^ k = lt_of_lt_of_le (lit< tt) (le_trans big (le_of_eq (sym is))) in
    record {
      low = sym (ap (λ (z : ℕ). z % 4294967296) is ∙ mul-mod_left y 4294967296);
      past = sym (lt-ltb 2147483647 (m * 2 ^ k) past);
      past-least = sym (lt-ltb 2147483648 (m * 2 ^ k) least);
    }

-- ---- two's complement, of a sign and a size
split : (k n : ℕ) → (k ≤ n) ⊎ (n < k)
split k n = go (eq-zero-or-pos (k - n))
  where
    go : (k - n ≡ 0) ⊎ (0 < k - n) → (k ≤ n) ⊎ (n < k)
    go (inl z) = inl (omega arith)
    go (inr p) = inr (omega arith)

low_of : (s n : ℕ) → low32 (integer s n) ≡ pick (eqb s 1) ((2 ^ 32 - n % 2 ^ 32) % 2 ^ 32) (n % 2 ^ 32)
unfolding low32
low_of s n = go (eqb s 1) n
  where
    go : (t : Bool) (n : ℕ) → low32 (pick t (neg_ℤ (pos n)) (pos n)) ≡ pick t ((2 ^ 32 - n % 2 ^ 32) % 2 ^ 32) (n % 2 ^ 32)
    go true zero = refl
    go true (suc k) = omega arith
    go false n = refl

pub overflows-past : (s n : ℕ) → s < 2 → ltb (2 ^ 31 - 1 + s) n ≡ overflows (integer s n)
unfolding overflows
overflows-past zero n l = go (split (2 ^ 31) n)
  where
    go : (2 ^ 31 ≤ n) ⊎ (n < 2 ^ 31) → ltb (2 ^ 31 - 1 + 0) n ≡ leb (2 ^ 31) n
    go (inl h) = lt-ltb (2 ^ 31 - 1 + 0) n (omega arith) ∙ sym (le-leb (2 ^ 31) n h)
    go (inr h) = le-ltb (2 ^ 31 - 1 + 0) n (omega arith) ∙ sym (lt-leb (2 ^ 31) n h)
overflows-past (suc zero) zero l = refl
overflows-past (suc zero) (suc k) l = go (split (2 ^ 31) k)
  where
    go : (2 ^ 31 ≤ k) ⊎ (k < 2 ^ 31) → ltb (2 ^ 31 - 1 + 1) (suc k) ≡ (ltb (2 ^ 31 - 1) k || false)
    go (inl h) = lt-ltb (2 ^ 31 - 1 + 1) (suc k) (omega arith) ∙ sym (ap (λ (t : Bool). t || false) (lt-ltb (2 ^ 31 - 1) k (omega arith)))
    go (inr h) = le-ltb (2 ^ 31 - 1 + 1) (suc k) (omega arith) ∙ sym (ap (λ (t : Bool). t || false) (le-ltb (2 ^ 31 - 1) k (omega arith)))
overflows-past (suc (suc s)) n l = absurd (omega arith)

-- ---- what does for a number gives its longword
longword-stands : (exc : Bool) (s x n : ℕ) → s < 2 → StandsFor x n → longword exc (integer s x) ≡ longword exc (integer s n)
longword-stands exc s x n l h =
    ap (λ (z : ℕ). record { value = z; types = pick (exc && overflows (integer s x)) 32 0 })
    (low_of s x ∙ ap (λ (z : ℕ). pick (eqb s 1) ((2 ^ 32 - z) % 2 ^ 32) z) h.low ∙ sym (low_of s n))
    ∙ ap (λ (z : Bool). record { value = low32 (integer s n); types = pick (exc && z) 32 0 }) (sym (overflows-past s x l) ∙ past s l ∙ overflows-past s n l)
  where
    past : (s : ℕ) → s < 2 → ltb (2 ^ 31 - 1 + s) x ≡ ltb (2 ^ 31 - 1 + s) n
    past zero l = h.past
    past (suc zero) l = h.past-least
    past (suc (suc k)) l = absurd (omega arith)

-- ---- the answer
pub longword-made : (s n a b r : ℕ) → a ≡ (4294967296 - n % 4294967296) % 4294967296 → b ≡ n % 4294967296 → r ≡ pick (eqb s 1) a b → r ≡ low32 (integer s n)
longword-made s n a b r ha hb hr = hr ∙ ap₂ (λ (y z : ℕ). pick (eqb s 1) y z) ha hb ∙ sym (low_of s n)

pub record-made : (exc t : Bool) (s n v y : ℕ) → t ≡ overflows (integer s n) → v ≡ low32 (integer s n) → y ≡ pick (exc && t) 32 0
    → record { value = v; types = y } ≡ longword exc (integer s n)
record-made exc t s n v y ht hv hy = ap₂ (λ (x z : ℕ). record { value = x; types = z }) hv (hy ∙ ap (λ (z : Bool). pick (exc && z) 32 0) ht)

pub narrow-made : (exc : Bool) (s n v : ℕ) → s < 2 → n < 2 ^ 31 → v ≡ low32 (integer s n) → record { value = v; types = 0 } ≡ longword exc (integer s n)
narrow-made exc s n v hs l hv = record-made exc false s n v 0 (sym (le-ltb (2147483647 + s) n (omega arith)) ∙ overflows-past s n hs) hv (go exc)
  where
    go : (exc : Bool) → ◌≡◌ {A = ℕ} 0 (pick (exc && false) 32 0)
    go true = refl
    go false = refl

module _ (f : Format) (made : ℕ → ℕ → ℕ) (exc : Bool) (w : ℕ) where
  source-reserved : is_reserved f w ≡ true → record { value = 0; types = 4 } ≡ to_longword f made exc w
  source-reserved e = sym (simp e)

  source-number : (r : Flagged) → is_reserved f w ≡ false → r ≡ longword exc (integer (sign_of f w) (made (size_of f w) (2 ^ (f.bits + f.excess))))
      → r ≡ to_longword f made exc w
  source-number r q e = e ∙ sym (simp q)

-- nothing is made of nothing
whole-none : (h d : ℕ) → 0 < d → h < 2 → whole_by h 0 d ≡ 0
whole-none h d P l = div-eq_of_lt less
  where
    h1 : h ≤ 1
    h1 = omega arith

    less : 0 * 2 + h * d < d * 2
    less = let o : h * d ≤ 1 * d = mul-le-mul h1 (le_of_eq refl) in let p : 1 * d ≡ d = one-mul d in omega arith

nothing : (exc : Bool) (s : ℕ) → s < 2 → longword exc (integer s 0) ≡ record { value = 0; types = 0 }
nothing exc s l = sym (narrow-made exc s 0 0 l (lit≤ tt) (sym (low_of s 0 ∙ go (eqb s 1))))
  where
    go : (t : Bool) → pick t ((2 ^ 32 - 0 % 2 ^ 32) % 2 ^ 32) (0 % 2 ^ 32) ≡ 0
    go true = refl
    go false = refl

module _ (f : Format) (exc : Bool) (w h : ℕ) (hh : h < 2) where
  -- how many digits stand after the point
  abbrev point : ℕ
  point = f.bits + f.excess

  -- no exponent: zero, or with the sign a reserved operand
  pub source-none : (e s y : ℕ) → e ≡ exponent_of f w → e ≡ 0 → s ≡ sign_of f w → y ≡ s * 4
      → record { value = 0; types = y } ≡ to_longword f (whole_by h) exc w
  source-none e s y he z hs hy = go (eqb (sign_of f w) 1) refl
    where
      x : eqb (exponent_of f w) 0 ≡ true
      x = eq-eqb (exponent_of f w) 0 (sym he ∙ z)

      reserved-is : is_reserved f w ≡ eqb (sign_of f w) 1
      reserved-is = simp x

      go : (t : Bool) → eqb (sign_of f w) 1 ≡ t → record { value = 0; types = y } ≡ to_longword f (whole_by h) exc w
      go true g =
          let one : sign_of f w ≡ 1 = eqb-true (sign_of f w) 1 g in
          let four : y ≡ 4 = omega arith in
          ap (λ (k : ℕ). record { value = 0; types = k }) four ∙ source-reserved f (whole_by h) exc w (reserved-is ∙ g)
      go false g =
          let not-one : (sign_of f w ≡ 1 → ⊥) = eqb-false (sign_of f w) 1 g in
          let nil : y ≡ 0 = omega (arith, not-one) in
          ap (λ (k : ℕ). record { value = 0; types = k }) nil
          ∙ source-number f (whole_by h) exc w (record { value = 0; types = 0 }) (reserved-is ∙ g)
          (sym
          (ap (λ (k : ℕ). longword exc (integer (sign_of f w) (whole_by h k (2 ^ point)))) (size_none f w (sym he ∙ z))
          ∙ ap (λ (k : ℕ). longword exc (integer (sign_of f w) k)) (whole-none h (2 ^ point) (pow_pos point) hh)
          ∙ nothing exc (sign_of f w) (omega arith)))

  module _ (r : Flagged) (e m s x : ℕ) (he : e ≡ exponent_of f w) (ne : e ≡ 0 → ⊥) (hm : m ≡ significand_of f w)
      (hs : s ≡ sign_of f w) (hr : r ≡ longword exc (integer s x)) where
    source-made : StandsFor x (whole_by h (m * 2 ^ e) (2 ^ point)) → r ≡ to_longword f (whole_by h) exc w
    source-made S =
        let z : m * 2 ^ e ≡ size_of f w = sym (size-fields f w e m he ne hm) in
        source-number f (whole_by h) exc w r (sym (number-free f w (λ y. ne (he ∙ y))))
        (hr
        ∙ ap (λ (y : ℕ). longword exc (integer y x)) hs
        ∙ longword-stands exc (sign_of f w) x (whole_by h (m * 2 ^ e) (2 ^ point)) (omega arith) S
        ∙ ap (λ (y : ℕ). longword exc (integer (sign_of f w) (whole_by h y (2 ^ point)))) z)

    pub source-below : x ≡ whole_by h (m * 2 ^ e) (2 ^ point) → r ≡ to_longword f (whole_by h) exc w
    source-below hx = source-made (stands hx)

    pub source-above : point ≤ e → StandsFor x (m * 2 ^ (e - point)) → r ≡ to_longword f (whole_by h) exc w
    source-above l S = source-made (subst (StandsFor x) (sym (no_fraction point e m h l hh)) S)

-- ---- with no halves a number is chopped
module _ (f : Format) (exc : Bool) (w : ℕ) where
  alike : (g k : ℕ → ℕ → ℕ) → ((a d : ℕ) → g a d ≡ k a d) → to_longword f g exc w ≡ to_longword f k exc w
  alike g k e =
      ap (λ (z : ℕ). pick (is_reserved f w) (record { value = 0; types = 4 }) (longword exc (integer (sign_of f w) z)))
      (e (size_of f w) (2 ^ (f.bits + f.excess)))

  pub by-none : to_longword f (whole_by 0) exc w ≡ truncated_longword f exc w
  by-none =
      alike (whole_by 0) chopped
      (λ a d. ap (λ (z : ℕ). (a * 2 + z) / (d * 2)) (zero-mul d) ∙ ap (λ (z : ℕ). z / (d * 2)) (add-zero (a * 2)) ∙ mul-div-mul_right a d (lit< tt))

-- ---- a whole number as a word
abbrev sized : ℕ → ℕ → Exact
sized s n = record { sign = s; num = n; den = 1 }

-- its digits, n at most, with the point behind them
whole-placed : (f : Format) (n s x : ℕ) → delivered f (placed f n s x (f.bits + f.excess + (n - f.bits)) 0) ≡ delivered f (sized s x)
whole-placed f n s x =
    let w = f.bits + f.excess in
    let k = n - f.bits in
    delivered-same f s (x * 2 ^ (w + k)) (2 ^ (0 + k) * 2 ^ w) x 1 (mul-pos (pow_pos (0 + k)) (pow_pos w)) (lit< tt)
    (mul-one (x * 2 ^ (w + k)) ∙ ap (λ (z : ℕ). x * z) (pow-add 2 w k ∙ mul_comm (2 ^ w) (2 ^ k)) ∙ ap (λ (z : ℕ). x * (2 ^ z * 2 ^ w)) (nothing-added k))
  where
    nothing-added : (k : ℕ) → k ≡ 0 + k
    nothing-added k = omega arith

-- its exponent field, with no zero before its 64 digits
abbrev above : ℕ
above = F.bits + F.excess + (64 - F.bits)

-- its magnitude is that of an F number, in 32 bits
pub whole-small : (z m k : ℕ) → m ≤ 2 ^ F.bits → k ≡ packed F (above - z) m % 2 ^ 32 → (k ≡ packed F (above - z) m) × (k < magnitudes F)
whole-small z m k hm hk = (omega arith, omega arith)

module _ (s n z y m k w : ℕ) (hs : s < 2) (hz : z < 64) (lo : 2 ^ 63 ≤ n * 2 ^ z) (hi : n * 2 ^ z < 2 ^ 64) (hy : y ≡ n * 2 ^ z)
    (hm : m ≡ near y (2 ^ (64 - F.bits)))
    (mlo : 2 ^ (F.bits - 1) ≤ m) (mhi : m ≤ 2 ^ F.bits) (hk : k ≡ packed F (above - z) m % 2 ^ 32) (hw : w ≡ swapped (s * magnitudes F + k))
  where
    pub whole-delivered : delivered F (record { sign = s; num = n; den = 1 }) ≡ Word w
    whole-delivered =
        let small = whole-small z m k mhi hk in
        let rounds : m ≡ near (n * 2 ^ z) (2 ^ (64 - F.bits)) = hm ∙ ap (λ (v : ℕ). near v (2 ^ (64 - F.bits))) hy in
        sym
        (settled_at F s above z m (lit< tt) mlo mhi (above - z) k (back z hz) small.0 w (least z hz m k small.0) small.1
        (swapped-word s k w hs small.1 hw)
        ∙ ap (λ (v : ℕ). settled F s above v m) (nothing-added z)
        ∙ placed-settled F 64 s n above 0 z m (lit< tt) (lit≤ tt) lo hi rounds
        ∙ whole-placed F 64 s n)
      where
        back : (z : ℕ) → z < 64 → above - z + z ≡ above
        back z h = omega arith

        least : (z : ℕ) → z < 64 → (m k : ℕ) → k ≡ packed F (above - z) m → 2 ^ (F.bits - 1) ≤ k
        least z h m k e = omega arith

        nothing-added : (z : ℕ) → z ≡ 0 + z
        nothing-added z = omega arith

module _ (f : Format) (l : ℕ) where
  pub longword-none : l ≡ 0 → from_longword f l ≡ Word 0
  unfolding signed
  longword-none z = ap (λ (y : ℕ). from_longword f y) z ∙ delivered-zero f (whole (pos 0)) refl

  pub longword-some : (r x n : ℕ) → l < 2 ^ 32 → x ≡ l → n ≡ pick (eqb (l / 2 ^ 31) 1) (2 ^ 32 - x) x → delivered f (sized (l / 2 ^ 31) n) ≡ Word r
      → from_longword f l ≡ Word r
  longword-some r x n h e hn d =
      ap (delivered f) (go (split (2 ^ 31) l)) ∙ ap (λ (y : ℕ). delivered f (sized (l / 2 ^ 31) y)) (ap size (sym e) ∙ sym hn) ∙ d
    where
      size : ℕ → ℕ
      size y = pick (eqb (l / 2 ^ 31) 1) (2 ^ 32 - y) y

      at : (k m : ℕ) → l / 2 ^ 31 ≡ k → pick (eqb k 1) (2 ^ 32 - l) l ≡ m → sized k m ≡ sized (l / 2 ^ 31) (size l)
      at k m q i = ap (sized k) (sym i) ∙ ap (λ (y : ℕ). sized y (pick (eqb y 1) (2 ^ 32 - l) l)) (sym q)

      go : (2 ^ 31 ≤ l) ⊎ (l < 2 ^ 31) → whole (signed l) ≡ sized (l / 2 ^ 31) (size l)
      go (inr g) = ap whole (signed_top l h ∙ sub-pos l (l / 2 ^ 31 * 2 ^ 32) l (omega arith)) ∙ at 0 l (omega arith) refl
      go (inl g) =
          ap whole (signed_top l h ∙ sub-neg l (l / 2 ^ 31 * 2 ^ 32) (4294967295 - l) (omega arith)) ∙ at 1 (4294967295 - l + 1) (omega arith) (omega arith)

-- a longword that is not zero has a size
pub size_in : (l x n : ℕ) → l < 2 ^ 32 → (l ≡ 0 → ⊥) → x ≡ l → n ≡ pick (eqb (l / 2 ^ 31) 1) (2 ^ 32 - x) x → (0 < n) × (n ≤ 2 ^ 31)
size_in l x n h z e hn = subst (λ (v : ℕ). (0 < v) × (v ≤ 2 ^ 31)) (sym hn) (go (eqb (l / 2 ^ 31) 1) refl)
  where
    go : (t : Bool) → eqb (l / 2 ^ 31) 1 ≡ t → (0 < pick t (2 ^ 32 - x) x) × (pick t (2 ^ 32 - x) x ≤ 2 ^ 31)
    go true g = let k : l / 2 ^ 31 ≡ 1 = eqb-true (l / 2 ^ 31) 1 g in (omega arith, omega arith)
    go false g = let k : (l / 2 ^ 31 ≡ 1 → ⊥) = eqb-false (l / 2 ^ 31) 1 g in (omega (arith, z), omega (arith, k))

-- ---- a significand moved up by at most 32 digits
pub moved_up : (n m k : ℕ) → m < 2 ^ n → k ≤ 32 → m * 2 ^ k ≤ 2 ^ n * 2 ^ 32
moved_up n m k hm l = mul-le-mul (le_of_lt hm) (pow_mono l)
