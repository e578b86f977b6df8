-- What a delivered word means: its value is the exact number rounded to the format's bits, half a unit away at most, a half away from zero; and a word's own
-- value delivers that word. What underflow and overflow mean: the rounded number is below the smallest, or past the largest. Over the format. Assumes
-- nothing.
use Rattle.std.proofs.Common.{◌≡◌, ℕ, ◌+◌, ◌-◌, ◌*◌, ◌^◌, ◌<◌, ◌≤◌, Bool, true, false, eqb, ltb, ◌↔◌, sym, refl, ap, ◌∙◌, subst, ap₂, le_trans, le_of_eq, lt_of_lt_of_le, mul_assoc, mul_comm, pos_of_ne-zero, mul-le-mul_left, lt_of_not-le, mul-one, mul_left_comm, arith, pow_pos, ltb-false, le-ltb, lt-ltb, eq-eqb, ne_eqb}
use borrow.Author.Tests.{eqb-false}
use Rattle.numbers.specs.Choice.{pick}
use Rattle.numbers.proofs.Tests.{pick_true}
use Rattle.floating.specs.declared.Delivery.{Delivery}
use Rattle.floating.specs.declared.Delivery.TheVariants.{Word, Overflow, Underflow}
use Rattle.floating.specs.Format.{Format, sign_of, exponent_of, fraction_of, significand_of, word_of}
use Rattle.floating.specs.Exact.{Exact, size_of, value_of}
use Rattle.floating.specs.Round.{places, rounded}
use Rattle.floating.specs.Delivered.{judged, delivered}
use Rattle.floating.specs.Working.{Enough}
use Rattle.floating.proofs.Arithmetic.{double-power}
use Rattle.floating.proofs.Rounding.{worth, rounded-within, rounded-past, rounded-below, rounded-reaches, rounded-in, rounded-over, rounded-under}
use Rattle.floating.proofs.Delivering.{delivered-some, judged-word}
use Rattle.floating.proofs.Sums.{alone-delivered}
use Rattle.floating.proofs.Packing.{Sound, fraction-lt, exponent_lt, repacked, packed_lt, sign-back, size_back}

at_least : {a b : ℕ} → (a < b → ⊥) → b ≤ a
at_least n = omega (arith, n)

-- ---- In units of 2 ^ -(bits + excess) the smallest number is 2 ^ bits, and the largest 2 ^ bits - 1 units of 2 ^ largest. An exact number that is not
-- zero underflows exactly where it is more than half a unit below the smallest: rounded, it stays below. It overflows exactly where it is half such a
-- larger unit or more above the largest: rounded, it is past it.
module _ (f : Format) (v : Exact) (D : 0 < v.den) (some : v.num ≡ 0 → ⊥) where
  -- v in units, over its denominator
  abbrev units : ℕ
  units = v.num * 2 ^ (f.bits + f.excess)

  abbrev field : ℕ
  field = (rounded f.bits units v.den).exp

  abbrev delivery : Bool → Bool → ℕ → Delivery
  delivery under over w = pick under Underflow (pick over Overflow (Word w))

  -- what the two tests of its exponent field make of it
  by_tests : (P : Delivery → Type 0) (under over : Bool) → eqb field 0 ≡ under → ltb f.largest field ≡ over
      → ((w : ℕ) → P (delivery under over w)) → P (delivered f v)
  by_tests P under over hu ho all =
      let w = word_of f v.sign field ((rounded f.bits units v.den).sig - 2 ^ (f.bits - 1)) in
      subst P (sym (delivered-some f v some ∙ ap₂ (λ (a b : Bool). delivery a b w) hu ho)) (all w)

  not-under : (over : Bool) (w : ℕ) → delivery false over w ≡ Underflow → ⊥
  not-under true w h = let z : ◌≡◌ {A = ℕ} 0 1 = cc in omega arith
  not-under false w h = let z : ◌≡◌ {A = ℕ} 0 1 = cc in omega arith

  not-over : (under : Bool) (w : ℕ) → delivery under false w ≡ Overflow → ⊥
  not-over true w h = let z : ◌≡◌ {A = ℕ} 0 1 = cc in omega arith
  not-over false w h = let z : ◌≡◌ {A = ℕ} 0 1 = cc in omega arith

  pub underflow-means : (delivered f v ≡ Underflow) ↔ (units * 2 + v.den < 2 ^ f.bits * (v.den * 2))
  underflow-means = (
    λ is. lt_of_not-le (λ h. by_tests (λ (d : Delivery). d ≡ Underflow → ⊥) false (ltb f.largest field)
        (ne_eqb field 0 (rounded-reaches f.bits units v.den D h)) refl (not-under (ltb f.largest field)) is),
    λ h. by_tests (λ (d : Delivery). d ≡ Underflow) true (ltb f.largest field)
        (eq-eqb field 0 (rounded-below f.bits units v.den D h)) refl (λ w. refl),
  )

  pub overflow-means : (delivered f v ≡ Overflow)
      ↔ (2 ^ f.bits * (v.den * 2 ^ f.largest * 2) ≤ units * 2 + v.den * 2 ^ f.largest)
  overflow-means = (
    λ is. at_least (λ h. by_tests (λ (d : Delivery). d ≡ Overflow → ⊥) (eqb field 0) false refl
        (le-ltb f.largest field (rounded-within f.bits units v.den f.largest D h)) (not-over (eqb field 0)) is),
    λ h. let past = rounded-past f.bits units v.den f.largest D h in
        by_tests (λ (d : Delivery). d ≡ Overflow) false true (ne_eqb field 0 (λ z. omega arith)) (lt-ltb f.largest field past) (λ w. refl),
  )

  -- any other delivers a word
  pub word_else : (delivered f v ≡ Underflow → ⊥) → (delivered f v ≡ Overflow → ⊥) → (w : ℕ) × (delivered f v ≡ Word w)
  word_else =
      by_tests (λ (d : Delivery). (d ≡ Underflow → ⊥) → (d ≡ Overflow → ⊥) → (w : ℕ) × (d ≡ Word w)) (eqb field 0) (ltb f.largest field) refl refl
      (by (eqb field 0) (ltb f.largest field))
    where
      by : (under over : Bool) (w : ℕ) → (delivery under over w ≡ Underflow → ⊥) → (delivery under over w ≡ Overflow → ⊥)
          → (x : ℕ) × (delivery under over w ≡ Word x)
      by true over w a b = absurd (a refl)
      by false true w a b = absurd (b refl)
      by false false w a b = (w, refl)

-- zero is all zero bits
pub zero_word : (f : Format) (v : Exact) → v.num ≡ 0 → delivered f v ≡ Word 0
unfolding delivered
zero_word f v e = pick_true (eqb v.num 0) (Word 0) _ (eq-eqb v.num 0 e)

module _ (f : Format) (S : Sound f) where
  -- ---- a word was in range
  record InRange (s m e w : ℕ) : Type 0 where
    above : e ≡ 0 → ⊥
    below : e ≤ f.largest
    packed : w ≡ word_of f s e (m - 2 ^ (f.bits - 1))

  in-range : (s m e w : ℕ) → judged f s m e ≡ Word w → InRange s m e w
  in-range s m e w h = go (eqb e 0) (ltb f.largest e) refl refl h
    where
      go : (p q : Bool) → eqb e 0 ≡ p → ltb f.largest e ≡ q → pick p Underflow (pick q Overflow (Word (word_of f s e (m - 2 ^ (f.bits - 1))))) ≡ Word w
          → InRange s m e w
      go true q hp hq j = let z : ◌≡◌ {A = ℕ} 0 1 = cc in absurd (omega arith)
      go false true hp hq j = let z : ◌≡◌ {A = ℕ} 0 1 = cc in absurd (omega arith)
      go false false hp hq j = record { above = eqb-false e 0 hp; below = ltb-false f.largest e hq; packed = cc }

  module _ (v : Exact) (w : ℕ) (hs : v.sign < 2) (D : 0 < v.den) (some : v.num ≡ 0 → ⊥) (is : delivered f v ≡ Word w) where
    -- v in units, over its denominator
    abbrev n : ℕ
    n = v.num * 2 ^ (f.bits + f.excess)

    told : InRange v.sign (rounded f.bits n v.den).sig (rounded f.bits n v.den).exp w
    told = in-range _ _ _ w (sym (delivered-some f v some) ∙ is)

    -- it has `bits` digits before its point
    enough : Enough f.bits n v.den
    enough =
        let reached : 2 ^ f.bits * (v.den * 2) ≤ n * 2 + v.den = at_least (λ h. told.above (rounded-below f.bits n v.den D h)) in
        let twice : 2 ^ f.bits * (v.den * 2) ≡ v.den * 2 ^ (f.bits - 1) * 4 = doubled v.den in
        let one : v.den ≤ v.den * 2 ^ (f.bits - 1) = le_trans (le_of_eq (sym (mul-one v.den))) (mul-le-mul_left v.den (pow_pos (f.bits - 1))) in
        omega arith
      where
        doubled : (d : ℕ) → 2 ^ f.bits * (d * 2) ≡ d * 2 ^ (f.bits - 1) * 4
        doubled d = ap (λ (z : ℕ). z * (d * 2)) (sym (double-power f.bits S.first)) ∙ simp (mul_assoc, mul_comm, mul_left_comm) (omega arith)

    abbrev fraction : ℕ
    fraction = (rounded f.bits n v.den).sig - 2 ^ (f.bits - 1)

    fraction-fits : fraction < 2 ^ (f.bits - 1)
    fraction-fits =
        let b = rounded-in f.bits n v.den S.first D enough in less (rounded f.bits n v.den).sig b.0 b.1
      where
        less : (m : ℕ) → 2 ^ (f.bits - 1) ≤ m → m < 2 ^ f.bits → m - 2 ^ (f.bits - 1) < 2 ^ (f.bits - 1)
        less m lo hi = let twice = double-power f.bits S.first in omega arith

    pub delivered-sign : sign_of f w ≡ v.sign
    delivered-sign =
        ap (sign_of f) told.packed ∙ sign-back f S v.sign (rounded f.bits n v.den).exp fraction hs told.below fraction-fits

    pub delivered-lt : w < 65536 * 65536 ^ f.further
    delivered-lt = rw told.packed (packed_lt f S v.sign (rounded f.bits n v.den).exp fraction hs told.below fraction-fits)

    -- the word's size is the rounded number
    pub delivered-size : size_of f w ≡ worth (rounded f.bits n v.den)
    unfolding worth
    delivered-size =
        let x = rounded f.bits n v.den in
        let b = rounded-in f.bits n v.den S.first D enough in
        ap (size_of f) told.packed ∙ size_back f S v.sign x.exp x.sig hs (pos_of_ne-zero told.above) told.below b.0 b.1

    -- half a unit above the exact number at most, and less than half a unit below it
    pub delivered-over : size_of f w * v.den * 2 ≤ n * 2 + v.den * 2 ^ places f.bits n v.den
    delivered-over =
        le_trans (le_of_eq (ap (λ (z : ℕ). z * v.den * 2) delivered-size))
        (rounded-over f.bits n v.den S.first D enough)

    pub delivered-under : n * 2 < size_of f w * v.den * 2 + v.den * 2 ^ places f.bits n v.den
    delivered-under =
        lt_of_lt_of_le (rounded-under f.bits n v.den S.first D enough)
        (le_of_eq (ap (λ (z : ℕ). z * v.den * 2 + v.den * 2 ^ places f.bits n v.den) (sym delivered-size)))

  -- ---- a number's own word
  pub delivered-own : (w : ℕ) → w < 65536 * 65536 ^ f.further → (exponent_of f w ≡ 0 → ⊥) → delivered f (value_of f w) ≡ Word w
  delivered-own w h n =
      let e = exponent_of f w in
      let x = fraction_of f w in
      let lt = fraction-lt f S w in
      let el = exponent_lt f S w in
      let rg = S.range in
      let P = S.first in
      let top : e ≤ f.largest = omega arith in
      let twice = double-power f.bits P in
      let hi : significand_of f w < 2 ^ f.bits = omega arith in
      let lo : 2 ^ (f.bits - 1) ≤ significand_of f w = omega arith in
      let frac : significand_of f w - 2 ^ (f.bits - 1) ≡ x = omega arith in
      let word : w ≡ word_of f (sign_of f w) e (significand_of f w - 2 ^ (f.bits - 1)) =
      sym (repacked f S w h) ∙ ap (λ (z : ℕ). word_of f (sign_of f w) e z) (sym frac) in
      sym (judged-word f (sign_of f w) (significand_of f w) e w n top word ∙ alone-delivered f (sign_of f w) w e (significand_of f w) P refl n refl lo hi)
