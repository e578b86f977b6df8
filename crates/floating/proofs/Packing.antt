-- A format's fields fit into its words, and what is put into a word comes out of it. Over the format. Assumes nothing.
use Rattle.std.proofs.Common.{◌≡◌, ℕ, zero, suc, ◌+◌, ◌-◌, ◌*◌, ◌/◌, ◌%◌, ◌^◌, ◌<◌, ◌≤◌, ◌⊎◌, sym, refl, ap, ◌∙◌, subst, ap₂, inl, inr, le_trans, le_of_eq, lt_of_lt_of_le, lt_of_le_of_lt, mod-lt, mod-eq_of_lt, mul_assoc, mul_comm, div-lt_iff_lt-mul, add-mul, eq-or-lt_of_le, mul-pos, one-mul, pow-suc, lt_of_not-le, div-add-mod', le-div_iff_mul-le, arith, lit<, lit≤, pow_pos, pow-add}
use native.Mathlib.Nat.{sub-zero}
use native.Mathlib.Nat.{div-div-eq-div-mul}
use lib.Arith.{digits_lt, digits_div, digits_mod, mod-mul}
use lib.Pow.{mod-pow-add}
use Rattle.floating.specs.Format.{Format, F, upward, sign_of, exponent_of, fraction_of, word_of}
use Rattle.floating.specs.declared.Delivery.TheVariants.{Word, Overflow, Underflow}
use Rattle.floating.specs.Exact.{size_of}
use Rattle.floating.specs.Round.{carried}
use Rattle.floating.specs.Delivered.{judged}
use Rattle.floating.specs.Working.{swapped, magnitude, magnitudes, ordinal, packed, settled}
use Rattle.floating.proofs.Arithmetic.{double-power}
use Rattle.floating.proofs.Rounding.{carried-in, carry-added}
use Rattle.floating.proofs.Delivering.{judged-under, judged-over, judged-word, settled-moved, settled-below}
use Rattle.floating.proofs.Products.{size-some}

-- what makes a format's numbers fit together: the fraction fills the word, and the exponents fill their field
pub record Sound (f : Format) : Type 0 where
  pub first : 0 < f.bits
  pub top : f.lowest ≤ 15
  pub filled : 2 ^ (f.bits - 1) ≡ 2 ^ f.lowest * 65536 ^ f.further
  pub range : suc f.largest ≡ 2 ^ (15 - f.lowest)

pub F-sound : Sound F
F-sound = record { first = lit< tt; top = lit≤ tt; filled = refl; range = refl }

-- ---- words of 16 bits, swapped about
words-pos : (n : ℕ) → 0 < 65536 ^ n
words-pos zero = lit< tt
words-pos (suc n) = subst (λ (z : ℕ). 0 < z) (sym (pow-suc 65536 n)) (mul-pos (words-pos n) (lit< tt))

pub upward-lt : (n x : ℕ) → upward n x < 65536 ^ n
upward-lt zero x = lit< tt
upward-lt (suc n) x = lt_of_lt_of_le (digits_lt (mod-lt x (lit< tt)) (upward-lt n (x / 65536))) (le_of_eq (mul_comm 65536 (65536 ^ n) ∙ sym (pow-suc 65536 n)))

-- from the other end
from-top : (n z : ℕ) → z < 65536 ^ suc n → upward (suc n) z ≡ upward n (z % 65536 ^ n) * 65536 + z / 65536 ^ n
from-top zero z h = omega arith
from-top (suc n) z h =
    let B = 65536 ^ n in
    let h' : z < B * 65536 * 65536 = lt_of_lt_of_le h (le_of_eq (pow-suc 65536 (suc n) ∙ ap (λ (y : ℕ). y * 65536) (pow-suc 65536 n))) in
    let less : z / 65536 < 65536 ^ suc n = lt_of_lt_of_le ((div-lt_iff_lt-mul (lit< tt)).1 h') (le_of_eq (sym (pow-suc 65536 n))) in
    let q = z / 65536 % B in
    let r = z % 65536 in
    let split : z % 65536 ^ suc n ≡ q * 65536 + r = ap (λ (y : ℕ). z % y) (pow-suc 65536 n) ∙ mod-mul z (words-pos n) (lit< tt) in
    let low : z % 65536 ^ suc n % 65536 ≡ r = ap (λ (y : ℕ). y % 65536) split ∙ digits_mod q (mod-lt z (lit< tt)) in
    let high : z % 65536 ^ suc n / 65536 ≡ q = ap (λ (y : ℕ). y / 65536) split ∙ digits_div q (mod-lt z (lit< tt)) in
    let far : z / 65536 / B ≡ z / 65536 ^ suc n = div-div-eq-div-mul z 65536 B ∙ ap (λ (y : ℕ). z / y) (mul_comm 65536 B ∙ sym (pow-suc 65536 n)) in
    ap (λ (y : ℕ). r * 65536 ^ suc n + y) (from-top n (z / 65536) less)
    ∙ joined r (65536 ^ suc n) B (upward n q) (z / 65536 / B) (pow-suc 65536 n)
    ∙ ap (λ (y : ℕ). (r * B + upward n q) * 65536 + y) far
    ∙ ap (λ (y : ℕ). (y * B + upward n q) * 65536 + z / 65536 ^ suc n) (sym low)
    ∙ ap (λ (y : ℕ). (z % 65536 ^ suc n % 65536 * B + upward n y) * 65536 + z / 65536 ^ suc n) (sym high)
  where
    joined : (r C B u v : ℕ) → C ≡ B * 65536 → r * C + (u * 65536 + v) ≡ (r * B + u) * 65536 + v
    joined r C B u v e =
        let a : r * C ≡ r * B * 65536 = ap (λ (y : ℕ). r * y) e ∙ sym (mul_assoc r B 65536) in
        omega arith

pub upward-twice : (n x : ℕ) → x < 65536 ^ n → upward n (upward n x) ≡ x
upward-twice zero x h = omega arith
upward-twice (suc n) x h =
    let B = 65536 ^ n in
    let u = upward n (x / 65536) in
    let less : x / 65536 < B = (div-lt_iff_lt-mul (lit< tt)).1 (lt_of_lt_of_le h (le_of_eq (pow-suc 65536 n))) in
    let low : upward (suc n) x % B ≡ u = digits_mod (x % 65536) (upward-lt n (x / 65536)) in
    let high : upward (suc n) x / B ≡ x % 65536 = digits_div (x % 65536) (upward-lt n (x / 65536)) in
    from-top n (upward (suc n) x) (upward-lt (suc n) x)
    ∙ ap (λ (y : ℕ). upward n y * 65536 + upward (suc n) x / B) low
    ∙ ap (λ (y : ℕ). upward n u * 65536 + y) high
    ∙ ap (λ (y : ℕ). y * 65536 + x % 65536) (upward-twice n (x / 65536) less)
    ∙ div-add-mod' x 65536

pub sign-lt : (f : Format) (w : ℕ) → sign_of f w < 2
sign-lt f w = mod-lt (w / 32768) (lit< tt)

module _ (f : Format) (S : Sound f) where
  field : 2 ^ (15 - f.lowest) * 2 ^ f.lowest ≡ 32768
  field = let t = S.top in let e : 15 - f.lowest + f.lowest ≡ 15 = omega arith in sym (pow-add 2 (15 - f.lowest) f.lowest) ∙ ap (λ (z : ℕ). 2 ^ z) e

  pub exponent_lt : (w : ℕ) → exponent_of f w < 2 ^ (15 - f.lowest)
  exponent_lt w = mod-lt (w / 2 ^ f.lowest) (pow_pos (15 - f.lowest))

  pub fraction-lt : (w : ℕ) → fraction_of f w < 2 ^ (f.bits - 1)
  fraction-lt w = lt_of_lt_of_le (digits_lt (mod-lt w (pow_pos f.lowest)) (upward-lt f.further (w / 65536))) (le_of_eq (sym S.filled))

  -- ---- a word is put together of its own fields
  pub repacked : (w : ℕ) → w < 65536 * 65536 ^ f.further → word_of f (sign_of f w) (exponent_of f w) (fraction_of f w) ≡ w
  repacked w h =
      let n = f.further in
      let t = S.top in
      let l15 : 15 - f.lowest + f.lowest ≡ 15 = omega arith in
      let u = upward n (w / 65536) in
      let less : w / 65536 < 65536 ^ n = (div-lt_iff_lt-mul (lit< tt)).1 (lt_of_lt_of_le h (le_of_eq (mul_comm 65536 (65536 ^ n)))) in
      let high : fraction_of f w / 65536 ^ n ≡ w % 2 ^ f.lowest = digits_div (w % 2 ^ f.lowest) (upward-lt n (w / 65536)) in
      let low : fraction_of f w % 65536 ^ n ≡ u = digits_mod (w % 2 ^ f.lowest) (upward-lt n (w / 65536)) in
      let below : exponent_of f w * 2 ^ f.lowest + w % 2 ^ f.lowest ≡ w % 32768 =
      sym (mod-pow-add w (15 - f.lowest) f.lowest) ∙ ap (λ (z : ℕ). w % 2 ^ z) l15 in
      ap (λ (z : ℕ). sign_of f w * 32768 + exponent_of f w * 2 ^ f.lowest + z + upward n (fraction_of f w % 65536 ^ n) * 65536) high
      ∙ ap (λ (z : ℕ). sign_of f w * 32768 + exponent_of f w * 2 ^ f.lowest + w % 2 ^ f.lowest + upward n z * 65536) low
      ∙ ap (λ (z : ℕ). sign_of f w * 32768 + exponent_of f w * 2 ^ f.lowest + w % 2 ^ f.lowest + z * 65536) (upward-twice n (w / 65536) less)
      ∙ whole w (exponent_of f w * 2 ^ f.lowest) (w % 2 ^ f.lowest) below
    where
      whole : (w x y : ℕ) → x + y ≡ w % 32768 → w / 32768 % 2 * 32768 + x + y + w / 65536 * 65536 ≡ w
      whole w x y e = omega arith

  -- ---- the fields of a word that was put together
  module _ (s e x : ℕ) (hs : s < 2) (he : e ≤ f.largest) (hx : x < 2 ^ (f.bits - 1)) where
    in_field : e < 2 ^ (15 - f.lowest)
    in_field = lt_of_le_of_lt he (le_of_eq S.range)

    in-first : x / 65536 ^ f.further < 2 ^ f.lowest
    in-first = (div-lt_iff_lt-mul (words-pos f.further)).1 (lt_of_lt_of_le hx (le_of_eq S.filled))

    in-half : e * 2 ^ f.lowest + x / 65536 ^ f.further < 32768
    in-half = lt_of_lt_of_le (digits_lt in_field in-first) (le_of_eq field)

    in_rest : x % 65536 ^ f.further < 65536 ^ f.further
    in_rest = mod-lt x (words-pos f.further)

    pub sign-back : sign_of f (word_of f s e x) ≡ s
    sign-back = back s (e * 2 ^ f.lowest) (x / 65536 ^ f.further) (upward f.further (x % 65536 ^ f.further)) in-half hs
      where
        back : (s a b q : ℕ) → a + b < 32768 → s < 2 → (s * 32768 + a + b + q * 65536) / 32768 % 2 ≡ s
        back s a b q h l = omega arith

    -- it fills its 16-bit words and no more
    pub packed_lt : word_of f s e x < 65536 * 65536 ^ f.further
    packed_lt =
        let n = f.further in
        lt_of_lt_of_le
        (within s (e * 2 ^ f.lowest) (x / 65536 ^ n) (upward n (x % 65536 ^ n)) (65536 ^ n) in-half hs (upward-lt n (x % 65536 ^ n)))
        (le_of_eq (mul_comm (65536 ^ n) 65536))
      where
        within : (s a b q B : ℕ) → a + b < 32768 → s < 2 → q < B → s * 32768 + a + b + q * 65536 < B * 65536
        within s a b q B h l k = omega arith

    -- the word, by its exponent's field
    placed : word_of f s e x
        ≡ ((upward f.further (x % 65536 ^ f.further) * 2 + s) * 2 ^ (15 - f.lowest) + e) * 2 ^ f.lowest + x / 65536 ^ f.further
    placed = at (upward f.further (x % 65536 ^ f.further)) (2 ^ (15 - f.lowest)) (2 ^ f.lowest) (x / 65536 ^ f.further) field
      where
        at : (q H L y : ℕ) → H * L ≡ 32768 → s * 32768 + e * L + y + q * 65536 ≡ ((q * 2 + s) * H + e) * L + y
        at q H L y k =
            let a : ((q * 2 + s) * H + e) * L ≡ (q * 2 + s) * 32768 + e * L =
            add-mul ((q * 2 + s) * H) e L ∙ ap (λ (z : ℕ). z + e * L) (mul_assoc (q * 2 + s) H L ∙ ap (λ (z : ℕ). (q * 2 + s) * z) k) in
            omega arith

    pub exponent-back : exponent_of f (word_of f s e x) ≡ e
    exponent-back =
        ap (λ (z : ℕ). z / 2 ^ f.lowest % 2 ^ (15 - f.lowest)) placed
        ∙ ap (λ (z : ℕ). z % 2 ^ (15 - f.lowest)) (digits_div ((upward f.further (x % 65536 ^ f.further) * 2 + s) * 2 ^ (15 - f.lowest) + e) in-first)
        ∙ digits_mod (upward f.further (x % 65536 ^ f.further) * 2 + s) in_field

    pub fraction-back : fraction_of f (word_of f s e x) ≡ x
    fraction-back =
        let n = f.further in
        let low : word_of f s e x % 2 ^ f.lowest ≡ x / 65536 ^ n =
        ap (λ (z : ℕ). z % 2 ^ f.lowest) placed ∙ digits_mod ((upward n (x % 65536 ^ n) * 2 + s) * 2 ^ (15 - f.lowest) + e) in-first in
        let high : word_of f s e x / 65536 ≡ upward n (x % 65536 ^ n) = over s (e * 2 ^ f.lowest) (x / 65536 ^ n) (upward n (x % 65536 ^ n)) in-half hs in
        ap (λ (z : ℕ). z * 65536 ^ n + upward n (word_of f s e x / 65536)) low
        ∙ ap (λ (z : ℕ). x / 65536 ^ n * 65536 ^ n + upward n z) high
        ∙ ap (λ (z : ℕ). x / 65536 ^ n * 65536 ^ n + z) (upward-twice n (x % 65536 ^ n) in_rest)
        ∙ div-add-mod' x (65536 ^ n)
      where
        over : (s a b q : ℕ) → a + b < 32768 → s < 2 → (s * 32768 + a + b + q * 65536) / 65536 ≡ q
        over s a b q h l = omega arith

  -- ---- so a word has the size that it was made of
  pub size_back : (s e m : ℕ) → s < 2 → 0 < e → e ≤ f.largest → 2 ^ (f.bits - 1) ≤ m → m < 2 ^ f.bits
      → size_of f (word_of f s e (m - 2 ^ (f.bits - 1))) ≡ m * 2 ^ e
  size_back s e m hs pe he lo hi =
      let Q = 2 ^ (f.bits - 1) in
      let p1 = S.first in
      let twice : 2 ^ f.bits ≡ Q * 2 = sym (double-power f.bits p1) in
      let hx : m - Q < Q = omega arith in
      let w = word_of f s e (m - Q) in
      let ee : exponent_of f w ≡ e = exponent-back s e (m - Q) hs he hx in
      let xx : fraction_of f w ≡ m - Q = fraction-back s e (m - Q) hs he hx in
      let mm : Q + (m - Q) ≡ m = omega arith in
      size-some f w (λ z. omega arith)
      ∙ ap (λ (z : ℕ). (Q + z) * 2 ^ exponent_of f w) xx
      ∙ ap (λ (z : ℕ). z * 2 ^ exponent_of f w) mm
      ∙ ap (λ (z : ℕ). m * 2 ^ z) ee

-- ---- the fields of 32 bits, as the code reads them
half-split : (w : ℕ) → w % 32768 ≡ exponent_of F w * 2 ^ F.lowest + w % 2 ^ F.lowest
half-split w = mod-pow-add w 8 7

pub magnitude-is : (w : ℕ) → w < 4294967296 → w % 32768 * 65536 + w / 65536 ≡ magnitude F w
magnitude-is w l =
    let h = half-split w in
    let g : w / 65536 < 65536 = omega arith in
    let k : w / 65536 % 65536 ≡ w / 65536 = mod-eq_of_lt g in
    omega arith

pub swapped-split : (w : ℕ) → w < 4294967296 → swapped w ≡ ordinal F w
swapped-split w l =
    let h : w % 65536 ≡ w / 32768 % 2 * 32768 + w % 32768 = mod-pow-add w 1 15 in
    let m = magnitude-is w l in
    omega arith

pub magnitude-in : (w k : ℕ) → k ≡ magnitude F w → (exponent_of F w ≡ 0 → ⊥) → (2 ^ (F.bits - 1) ≤ k) × (k < magnitudes F)
magnitude-in w k hk n = let e = exponent_lt F F-sound w in let x = fraction-lt F F-sound w in (omega (arith, n), omega arith)

-- ---- a rounded number by its magnitude
module _ (f : Format) (s e down m : ℕ) (P : 0 < f.bits) (lo : 2 ^ (f.bits - 1) ≤ m) (hi : m ≤ 2 ^ f.bits) where
  abbrev q : ℕ
  q = 2 ^ (f.bits - 1)

  -- not below zero, with the field i before rounding and the magnitude k
  module _ (i k : ℕ) (he : i + down ≡ e) (hk : k ≡ packed f i m) where
    -- the field and the fraction after the carry
    abbrev a : ℕ
    a = (carried f.bits m i).exp

    abbrev x : ℕ
    x = (carried f.bits m i).sig - q

    told : k ≡ a * q + x
    told = hk ∙ carry-added f.bits i m P lo hi

    below : x < q
    below = let b = carried-in f.bits m i P lo in less (carried f.bits m i).sig b.0 b.1
      where
        less : (y : ℕ) → q ≤ y → y < 2 ^ f.bits → y - q < q
        less y l h = let twice = double-power f.bits P in omega arith

    field_is : k / q ≡ a
    field_is = ap (λ (z : ℕ). z / q) told ∙ digits_div a below

    fraction-is : k % q ≡ x
    fraction-is = ap (λ (z : ℕ). z % q) told ∙ digits_mod a below

    counted : judged f s (carried f.bits m i).sig a ≡ settled f s e down m
    counted =
        let back : i + down ≡ e + 0 = omega arith in
        ap (λ (z : ℕ). judged f s (carried f.bits m i).sig z) (sym (sub-zero a)) ∙ settled-moved f s i 0 e down m back

    some : q ≤ k → a ≡ 0 → ⊥
    some h z =
        let l : 1 ≤ k / q = (le-div_iff_mul-le (pow_pos (f.bits - 1))).1 (le_trans (le_of_eq (one-mul q)) h) in
        none (k / q) l (field_is ∙ z)
      where
        none : (y : ℕ) → 1 ≤ y → y ≡ 0 → ⊥
        none y l e = omega arith

    pub settled-low : k < q → Underflow ≡ settled f s e down m
    settled-low h =
        let l : k / q < 1 = (div-lt_iff_lt-mul (pow_pos (f.bits - 1))).1 (lt_of_lt_of_le h (le_of_eq (sym (one-mul q)))) in
        judged-under f s (carried f.bits m i).sig a (sym field_is ∙ none (k / q) l) ∙ counted
      where
        none : (y : ℕ) → y < 1 → y ≡ 0
        none y l = omega arith

    pub settled-high : magnitudes f ≤ k → Overflow ≡ settled f s e down m
    settled-high h =
        let l : f.largest + 1 ≤ k / q = (le-div_iff_mul-le (pow_pos (f.bits - 1))).1 h in
        judged-over f s (carried f.bits m i).sig a (λ z. none (k / q) l (field_is ∙ z)) (past (k / q) a l field_is) ∙ counted
      where
        none : (y : ℕ) → f.largest + 1 ≤ y → y ≡ 0 → ⊥
        none y l e = omega arith

        past : (y a : ℕ) → f.largest + 1 ≤ y → y ≡ a → f.largest < a
        past y a l e = omega arith

    pub settled_at : (w : ℕ) → q ≤ k → k < magnitudes f → w ≡ word_of f s (k / q) (k % q) → Word w ≡ settled f s e down m
    settled_at w least most hw =
        let l : k / q < f.largest + 1 = (div-lt_iff_lt-mul (pow_pos (f.bits - 1))).1 most in
        judged-word f s (carried f.bits m i).sig a w (some least) (within (k / q) a l field_is) (hw ∙ ap₂ (word_of f s) field_is fraction-is) ∙ counted
      where
        within : (y a : ℕ) → y < f.largest + 1 → y ≡ a → a ≤ f.largest
        within y a l e = omega arith

-- ---- in 32 bits, as the code packs an F number
swapped-is : (s e x : ℕ) → s < 2 → e ≤ F.largest → x < 2 ^ (F.bits - 1) → swapped (s * magnitudes F + (e * 2 ^ (F.bits - 1) + x)) ≡ word_of F s e x
swapped-is s e x hs he hx =
    let h = x / 65536 in
    let l = x % 65536 in
    let l' : l < 65536 = mod-lt x (lit< tt) in
    let v : s * magnitudes F + (e * 2 ^ (F.bits - 1) + x) ≡ (s * 32768 + e * 2 ^ F.lowest + h) * 65536 + l = omega arith in
    ap swapped v
    ∙ ap (λ (z : ℕ). z * 65536 + ((s * 32768 + e * 2 ^ F.lowest + h) * 65536 + l) / 65536) (digits_mod (s * 32768 + e * 2 ^ F.lowest + h) l')
    ∙ ap (λ (z : ℕ). l * 65536 + z) (digits_div (s * 32768 + e * 2 ^ F.lowest + h) l')
    ∙ last s e h l l'
  where
    last : (s e h l : ℕ) → l < 65536 → l * 65536 + (s * 32768 + e * 2 ^ F.lowest + h) ≡ s * 32768 + e * 2 ^ F.lowest + h + (l % 65536 * 1 + 0) * 65536
    last s e h l g = omega arith

pub swapped-word : (s k w : ℕ) → s < 2 → k < magnitudes F → w ≡ swapped (s * magnitudes F + k) → w ≡ word_of F s (k / 2 ^ (F.bits - 1)) (k % 2 ^ (F.bits - 1))
swapped-word s k w hs most hw =
    hw
    ∙ ap (λ (z : ℕ). swapped (s * magnitudes F + z)) (sym (div-add-mod' k (2 ^ (F.bits - 1))))
    ∙ swapped-is s (k / 2 ^ (F.bits - 1)) (k % 2 ^ (F.bits - 1)) hs (omega arith) (mod-lt k (lit< tt))

module _ (s e down m k : ℕ) (lo : 2 ^ (F.bits - 1) ≤ m) (hi : m ≤ 2 ^ F.bits)
    (low-most : down ≤ e + F.largest) (high-most : e < down + 2 * F.largest)
    (hk : k ≡ packed F ((e + 2 * (F.largest + 1) - down) % (2 * (F.largest + 1))) m % 2 ^ 32) where
  -- a field below zero is twice the fields more, so one in range is not below zero
  reached : 2 ^ (F.bits - 1) ≤ k → k < magnitudes F → down ≤ e
  reached a b = omega arith

  whole : down ≤ e → k ≡ packed F (e - down) m
  whole h = omega arith

  back : down ≤ e → e - down + down ≡ e
  back h = omega arith

  pub settled-under : e ≤ down → (2 ^ (F.bits - 1) ≤ k → k < magnitudes F → ⊥) → Underflow ≡ settled F s e down m
  settled-under h out = go (eq-or-lt_of_le h)
    where
      go : (e ≡ down) ⊎ (e < down) → Underflow ≡ settled F s e down m
      go (inl z) =
          settled-low F s e down m (lit< tt) lo hi (e - down) k (back (le_of_eq (sym z))) (whole (le_of_eq (sym z))) (lt_of_not-le (λ l. out l (omega arith)))
      go (inr l) = settled-below F s e down m l

  pub settled-over : down < e → (2 ^ (F.bits - 1) ≤ k → k < magnitudes F → ⊥) → Overflow ≡ settled F s e down m
  settled-over h out =
      let l : down ≤ e = omega arith in
      settled-high F s e down m (lit< tt) lo hi (e - down) k (back l) (whole l) (let n : (k < magnitudes F → ⊥) = out (omega arith) in omega (arith, n))

  pub settled-word : (w : ℕ) → s < 2 → 2 ^ (F.bits - 1) ≤ k → k < magnitudes F → w ≡ swapped (s * magnitudes F + k) → Word w ≡ settled F s e down m
  settled-word w hs least most hw =
      let l = reached least most in
      settled_at F s e down m (lit< tt) lo hi (e - down) k (back l) (whole l) w least most (swapped-word s k w hs most hw)

-- ---- a word's own fields, packed
pub magnitude-word : (s w k r : ℕ) → s < 2 → k ≡ magnitude F w → r ≡ swapped (s * magnitudes F + k) → r ≡ word_of F s (exponent_of F w) (fraction_of F w)
magnitude-word s w k r hs hk hr =
    let l = exponent_lt F F-sound w in
    hr ∙ ap (λ (z : ℕ). swapped (s * magnitudes F + z)) hk ∙ swapped-is s (exponent_of F w) (fraction_of F w) hs (omega arith) (fraction-lt F F-sound w)
