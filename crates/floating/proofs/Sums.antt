-- The sum of two numbers of a format: its cases, and what the code's aligned sum and difference deliver. Assumes nothing.
use Rattle.std.proofs.Common.{◌≡◌, ℕ, ◌+◌, ◌-◌, ◌*◌, ◌/◌, ◌%◌, ◌^◌, ◌<◌, ◌≤◌, Bool, true, false, not, ◌||◌, T, eqb, ltb, ◌⊎◌, sym, refl, ap, ◌∙◌, subst, inl, inr, le_of_eq, le_of_lt, mul-le-mul_right, mod-lt, mul_assoc, mul_comm, add-mul, eq-zero-or-pos, mul-le-mul, add_comm, mul-lt-mul_of_pos_right, mul-pos, zero-mul, mul-one, mul_left_comm, arith, lit<, ltb→lt, nltb→le, pow_pos, pow-add, le-ltb, lt-ltb, eq-eqb, ne_eqb, eqb-true}
use lib.Ieee.Nearest.{div_mono}
use borrow.Author.Tests.{eqb-false}
use Rattle.numbers.specs.Choice.{pick}
use Rattle.floating.specs.declared.Delivery.{Delivery}
use Rattle.floating.specs.declared.Delivery.TheVariants.{Word, Reserved}
use Rattle.floating.specs.Format.{Format, F, sign_of, exponent_of, fraction_of, significand_of, is_reserved, word_of}
use Rattle.floating.specs.Exact.{units, size_of, together}
use Rattle.floating.specs.Round.{Rounded}
use Rattle.floating.specs.Delivered.{judged, delivered}
use Rattle.floating.specs.Operations.{sum, difference}
use Rattle.floating.specs.Working.{swapped, magnitude, magnitudes, size_at, joint, placed, combined}
use Rattle.floating.proofs.Arithmetic.{sub-mul, double-power}
use Rattle.floating.proofs.Rounding.{itself-normal, itself-near, itself-carried}
use Rattle.floating.proofs.Delivering.{judged-word, settled-moved, delivered-zero, delivered-near, delivered-floor, delivered-same}
use Rattle.floating.proofs.Align.{none-joint, some-long}
use Rattle.floating.proofs.Products.{size_none, size-fields}
use Rattle.floating.proofs.Packing.{Sound, F-sound, fraction-lt, exponent_lt, magnitude-word}
use Rattle.floating.proofs.Magnitude.{apart, at_most, sized}
use Rattle.floating.proofs.Refusing.{passed, numbers-passed}

-- a test of two numbers, with what it says
pub data Test (a b : ℕ) : Type 0 where
  same : a ≡ b → Test a b
  less : a < b → Test a b
  more : b < a → Test a b

pub order : (a b : ℕ) → Test a b
order a b = go (eq-zero-or-pos (a - b)) (eq-zero-or-pos (b - a))
  where
    go : (a - b ≡ 0) ⊎ (0 < a - b) → (b - a ≡ 0) ⊎ (0 < b - a) → Test a b
    go (inl p) (inl q) = same (omega arith)
    go (inl p) (inr q) = less (omega arith)
    go (inr p) q = more (omega arith)

pub signs : (s t : ℕ) → (s ≡ t) ⊎ (s ≡ t → ⊥)
signs s t = go (eqb s t) refl
  where
    go : (b : Bool) → eqb s t ≡ b → (s ≡ t) ⊎ (s ≡ t → ⊥)
    go true h = inl (eqb-true s t h)
    go false h = inr (eqb-false s t h)

-- ---- the cases of a sum
module _ (s a t b d : ℕ) where
  pub together-same : s ≡ t → together s a t b d ≡ record { sign = s; num = a + b; den = d }
  together-same e = simp (eq-eqb s t e)

  pub together-more : (s ≡ t → ⊥) → b < a → together s a t b d ≡ record { sign = s; num = a - b; den = d }
  together-more e h = simp (ne_eqb s t e, lt-ltb b a h)

  pub together-less : (s ≡ t → ⊥) → a ≤ b → together s a t b d ≡ record { sign = t; num = b - a; den = d }
  together-less e h = simp (ne_eqb s t e, le-ltb b a h)

module _ (f : Format) where
  -- ---- a common factor
  pub scaled-sum : (s x t y D : ℕ) → 0 < D → delivered f (together s (x * D) t (y * D) (D * D)) ≡ delivered f (together s x t y D)
  scaled-sum s x t y D P = go (signs s t) (order x y)
    where
      factor : (z : ℕ) → z * D * D ≡ z * (D * D)
      factor z = mul_assoc z D D

      alike : (g n m : ℕ) → m ≡ n * D → delivered f (record { sign = g; num = m; den = D * D }) ≡ delivered f (record { sign = g; num = n; den = D })
      alike g n m e = delivered-same f g m (D * D) n D (mul-le-mul P P) P (ap (λ (z : ℕ). z * D) e ∙ factor n)

      go : (s ≡ t) ⊎ (s ≡ t → ⊥) → Test x y → delivered f (together s (x * D) t (y * D) (D * D)) ≡ delivered f (together s x t y D)
      go (inl e) o =
          ap (delivered f) (together-same s (x * D) t (y * D) (D * D) e)
          ∙ alike s (x + y) (x * D + y * D) (sym (add-mul x y D))
          ∙ ap (delivered f) (sym (together-same s x t y D e))
      go (inr n) (more h) =
          ap (delivered f) (together-more s (x * D) t (y * D) (D * D) n (mul-lt-mul_of_pos_right h P))
          ∙ alike s (x - y) (x * D - y * D) (sym (sub-mul x y D))
          ∙ ap (delivered f) (sym (together-more s x t y D n h))
      go (inr n) (less h) =
          ap (delivered f) (together-less s (x * D) t (y * D) (D * D) n (mul-le-mul_right D (le_of_lt h)))
          ∙ alike t (y - x) (y * D - x * D) (sym (sub-mul y x D))
          ∙ ap (delivered f) (sym (together-less s x t y D n (le_of_lt h)))
      go (inr n) (same e) =
          ap (delivered f) (together-less s (x * D) t (y * D) (D * D) n (mul-le-mul_right D (le_of_eq e)))
          ∙ alike t (y - x) (y * D - x * D) (sym (sub-mul y x D))
          ∙ ap (delivered f) (sym (together-less s x t y D n (le_of_eq e)))

  -- ---- either order
  pub either_order : (s a t b d : ℕ) → delivered f (together s a t b d) ≡ delivered f (together t b s a d)
  either_order s a t b d = go (signs s t) (order a b)
    where
      other : (s ≡ t → ⊥) → t ≡ s → ⊥
      other n e = n (sym e)

      go : (s ≡ t) ⊎ (s ≡ t → ⊥) → Test a b → delivered f (together s a t b d) ≡ delivered f (together t b s a d)
      go (inl e) o =
          ap (delivered f) (together-same s a t b d e)
          ∙ ap (λ (z : ℕ). delivered f (record { sign = z; num = a + b; den = d })) e
          ∙ ap (λ (z : ℕ). delivered f (record { sign = t; num = z; den = d })) (add_comm a b)
          ∙ ap (delivered f) (sym (together-same t b s a d (sym e)))
      go (inr n) (more h) = ap (delivered f) (together-more s a t b d n h) ∙ ap (delivered f) (sym (together-less t b s a d (other n) (le_of_lt h)))
      go (inr n) (less h) = ap (delivered f) (together-less s a t b d n (le_of_lt h)) ∙ ap (delivered f) (sym (together-more t b s a d (other n) h))
      go (inr n) (same e) =
          let p : b - a ≡ 0 = omega arith in
          let q : a - b ≡ 0 = omega arith in
          ap (delivered f) (together-less s a t b d n (le_of_eq e))
          ∙ delivered-zero f (record { sign = t; num = b - a; den = d }) p
          ∙ sym (delivered-zero f (record { sign = s; num = a - b; den = d }) q)
          ∙ ap (delivered f) (sym (together-less t b s a d (other n) (le_of_eq (sym e))))

  -- ---- with nothing
  pub nothing_left : (s a t b d : ℕ) → a ≡ 0 → delivered f (together s a t b d) ≡ delivered f (record { sign = t; num = b; den = d })
  nothing_left s a t b d z = go (signs s t)
    where
      go : (s ≡ t) ⊎ (s ≡ t → ⊥) → delivered f (together s a t b d) ≡ delivered f (record { sign = t; num = b; den = d })
      go (inl e) =
          let q : a + b ≡ b = omega arith in
          ap (delivered f) (together-same s a t b d e)
          ∙ ap (λ (k : ℕ). delivered f (record { sign = k; num = a + b; den = d })) e
          ∙ ap (λ (k : ℕ). delivered f (record { sign = t; num = k; den = d })) q
      go (inr n) =
          let l : a ≤ b = omega arith in
          let q : b - a ≡ b = omega arith in
          ap (delivered f) (together-less s a t b d n l) ∙ ap (λ (k : ℕ). delivered f (record { sign = t; num = k; den = d })) q

  pub nothing_right : (s a t b d : ℕ) → b ≡ 0 → delivered f (together s a t b d) ≡ delivered f (record { sign = s; num = a; den = d })
  nothing_right s a t b d z = either_order s a t b d ∙ nothing_left t b s a d z

  -- ---- a number by itself
  pub alone-delivered : (s w e m : ℕ) → 0 < f.bits → e ≡ exponent_of f w → (e ≡ 0 → ⊥) → m ≡ significand_of f w → 2 ^ (f.bits - 1) ≤ m → m < 2 ^ f.bits
      → judged f s m e ≡ delivered f (units f s (size_of f w))
  alone-delivered s w e m P he ne hm lo hi =
      let u = f.bits + f.excess in
      let plain : e ≡ e - 0 = omega arith in
      let same : e + 0 ≡ 0 + e + 0 = omega arith in
      let z : size_of f w ≡ m * 2 ^ e = size-fields f w e m he ne hm in
      ap (λ (y : ℕ). judged f s m y) plain
      ∙ ap (λ (x : Rounded). judged f s x.sig (x.exp - 0)) (sym (itself-carried f.bits m lo hi e))
      ∙ settled-moved f s e 0 (0 + e) 0 m same
      ∙ delivered-near f s (m * 2 ^ e) (2 ^ u) m 1 0 m e 0 P (pow_pos u) (lit< tt) (mul-one (m * 2 ^ e * 2 ^ u)) (itself-normal f.bits m lo hi)
      (itself-near f.bits m lo hi)
      ∙ ap (λ (y : ℕ). delivered f (units f s y)) (sym z)

  pub none-delivered : (s w e : ℕ) → e ≡ exponent_of f w → e ≡ 0 → Word 0 ≡ delivered f (units f s (size_of f w))
  none-delivered s w e he z = sym (delivered-zero f (units f s (size_of f w)) (size_none f w (sym he ∙ z)))

  -- ---- the smaller taken from the larger, or added to it
  joint-delivered : (s x t y D : ℕ) → y ≤ x
      → delivered f (record { sign = s; num = joint (not (eqb s t)) x y; den = D }) ≡ delivered f (together s x t y D)
  joint-delivered s x t y D le = go (signs s t) (order x y)
    where
      is : (minus : Bool) → eqb s t ≡ not minus
          → delivered f (record { sign = s; num = joint (not (eqb s t)) x y; den = D }) ≡ delivered f (record { sign = s; num = joint minus x y; den = D })
      is true e = ap (λ (z : Bool). delivered f (record { sign = s; num = joint (not z) x y; den = D })) e
      is false e = ap (λ (z : Bool). delivered f (record { sign = s; num = joint (not z) x y; den = D })) e

      go : (s ≡ t) ⊎ (s ≡ t → ⊥) → Test x y → delivered f (record { sign = s; num = joint (not (eqb s t)) x y; den = D }) ≡ delivered f (together s x t y D)
      go (inl e) o = is false (eq-eqb s t e) ∙ ap (delivered f) (sym (together-same s x t y D e))
      go (inr n) (more h) = is true (ne_eqb s t n) ∙ ap (delivered f) (sym (together-more s x t y D n h))
      go (inr n) (less h) = absurd (omega arith)
      go (inr n) (same e) =
          let p : x - y ≡ 0 = omega arith in
          let q : y - x ≡ 0 = omega arith in
          is true (ne_eqb s t n)
          ∙ delivered-zero f (record { sign = s; num = x - y; den = D }) p
          ∙ sym (delivered-zero f (record { sign = t; num = y - x; den = D }) q)
          ∙ ap (delivered f) (sym (together-less s x t y D n (le_of_eq e)))

  -- the code's choice of the larger
  pub chosen-delivered : (s a t b u k l : ℕ) → u ≡ pick (ltb a b) t s → k ≡ pick (ltb a b) b a → l ≡ pick (ltb a b) a b
      → delivered f (units f u (joint (not (eqb s t)) (size_at f k) (size_at f l)))
      ≡ delivered f (together s (size_at f a) t (size_at f b) (2 ^ (f.bits + f.excess)))
  chosen-delivered s a t b u k l hu hk hl =
      ap (λ (z : ℕ). delivered f (units f z (joint (not (eqb s t)) (size_at f k) (size_at f l)))) hu
      ∙ ap (λ (z : ℕ). delivered f (units f (pick (ltb a b) t s) (joint (not (eqb s t)) (size_at f z) (size_at f l)))) hk
      ∙ ap (λ (z : ℕ). delivered f (units f (pick (ltb a b) t s) (joint (not (eqb s t)) (size_at f (pick (ltb a b) b a)) (size_at f z)))) hl
      ∙ go (ltb a b) (ltb→lt a b) (nltb→le a b)
    where
      D : ℕ
      D = 2 ^ (f.bits + f.excess)

      turned : (s ≡ t) ⊎ (s ≡ t → ⊥) → eqb s t ≡ eqb t s
      turned (inl e) = eq-eqb s t e ∙ sym (eq-eqb t s (sym e))
      turned (inr n) = ne_eqb s t n ∙ sym (ne_eqb t s (λ e. n (sym e)))

      go : (p : Bool) → (T p → a < b) → (T (not p) → b ≤ a)
          → delivered f (record { sign = pick p t s; num = joint (not (eqb s t)) (size_at f (pick p b a)) (size_at f (pick p a b)); den = D })
          ≡ delivered f (together s (size_at f a) t (size_at f b) D)
      go true h g =
          ap (λ (z : Bool). delivered f (record { sign = t; num = joint (not z) (size_at f b) (size_at f a); den = D })) (turned (signs s t))
          ∙ joint-delivered t (size_at f b) s (size_at f a) D (at_most f b a (le_of_lt (h tt))).0
          ∙ either_order t (size_at f b) s (size_at f a) D
      go false h g = joint-delivered s (size_at f a) t (size_at f b) D (at_most f a b (g tt)).0

-- the larger of two numbers, as the code chooses it
pub in_order : (a b k l : ℕ) → k ≡ pick (ltb a b) b a → l ≡ pick (ltb a b) a b → l ≤ k
in_order a b k l hk hl = subst (λ (z : ℕ). l ≤ z) (sym hk) (subst (λ (z : ℕ). z ≤ pick (ltb a b) b a) (sym hl) (go (ltb a b) (ltb→lt a b) (nltb→le a b)))
  where
    go : (p : Bool) → (T p → a < b) → (T (not p) → b ≤ a) → pick p a b ≤ pick p b a
    go true h g = le_of_lt (h tt)
    go false h g = g tt

module _ (p : Bool) (a b k n : ℕ) (h : k ≡ pick p a b) where
  pub choice-below : a < n → b < n → k < n
  choice-below x y = subst (λ (z : ℕ). z < n) (sym h) (go p)
    where
      go : (p : Bool) → pick p a b < n
      go true = x
      go false = y

  pub choice-above : n ≤ a → n ≤ b → n ≤ k
  choice-above x y = subst (λ (z : ℕ). n ≤ z) (sym h) (go p)
    where
      go : (p : Bool) → n ≤ pick p a b
      go true = x
      go false = y

-- ---- the aligned sum or difference of two significands
joint-factor : (minus : Bool) (a b c : ℕ) → joint minus (a * c) (b * c) ≡ joint minus a b * c
joint-factor true a b c = sym (sub-mul a b c)
joint-factor false a b c = sym (add-mul a b c)

module _ (f : Format) (minus : Bool) (ea a eb b : ℕ) (le : eb ≤ ea) where
  apart-joint : joint minus (a * 2 ^ ea) (b * 2 ^ eb) ≡ joint minus (a * 2 ^ (ea - eb)) b * 2 ^ eb
  apart-joint =
      let ee : eb + (ea - eb) ≡ ea = omega arith in
      ap (λ (z : ℕ). joint minus z (b * 2 ^ eb)) (apart a ea eb (ea - eb) ee) ∙ joint-factor minus (a * 2 ^ (ea - eb)) b (2 ^ eb)

  -- x, as n digits, is the whole part in units of 2 ^ -g of a's last digit
  joint-placed : (n g s x : ℕ) → 0 < f.bits → g ≤ n - f.bits → x ≡ joint minus (a * 2 ^ (ea - eb)) b * 2 ^ g / 2 ^ (ea - eb) → 2 ^ f.bits ≤ x
      → delivered f (placed f n s x (ea + (n - f.bits - g)) 0) ≡ delivered f (units f s (joint minus (a * 2 ^ ea) (b * 2 ^ eb)))
  joint-placed n g s x P room hx long =
      let w = f.bits + f.excess in
      let k = n - f.bits in
      let d = ea - eb in
      let m = joint minus (a * 2 ^ d) b in
      let ee : eb + d ≡ ea = omega arith in
      let kk : k - g + g ≡ 0 + k = omega arith in
      let here : x * 2 ^ (ea + (k - g)) * 2 ^ (g + w) ≡ x * 2 ^ ea * (2 ^ (0 + k) * 2 ^ w) =
      digits x ea (k - g) g w ∙ ap (λ (z : ℕ). x * 2 ^ ea * (2 ^ z * 2 ^ w)) kk in
      let there : m * 2 ^ g * 2 ^ ea * 2 ^ w ≡ m * 2 ^ eb * (2 ^ d * 2 ^ (g + w)) = ap (λ (z : ℕ). m * 2 ^ g * 2 ^ z * 2 ^ w) (sym ee) ∙ shuffled m eb w d g in
      delivered-same f s (x * 2 ^ (ea + (k - g))) (2 ^ (0 + k) * 2 ^ w) (x * 2 ^ ea) (2 ^ (g + w)) (mul-pos (pow_pos (0 + k)) (pow_pos w)) (pow_pos (g + w))
      here
      ∙ sym (delivered-floor f s (m * 2 ^ g) (2 ^ d) x ea (g + w) P (pow_pos d) hx long)
      ∙ delivered-same f s (m * 2 ^ g * 2 ^ ea) (2 ^ d * 2 ^ (g + w)) (m * 2 ^ eb) (2 ^ w) (mul-pos (pow_pos d) (pow_pos (g + w))) (pow_pos w) there
      ∙ ap (λ (y : ℕ). delivered f (units f s y)) (sym apart-joint)
    where
      digits : (x e i g w : ℕ) → x * 2 ^ (e + i) * 2 ^ (g + w) ≡ x * 2 ^ e * (2 ^ (i + g) * 2 ^ w)
      digits x e i g w = simp (pow-add, mul_assoc, mul_comm, mul_left_comm)

      shuffled : (m i w d g : ℕ) → m * 2 ^ g * 2 ^ (i + d) * 2 ^ w ≡ m * 2 ^ i * (2 ^ d * 2 ^ (g + w))
      shuffled m i w d g = simp (pow-add, mul_assoc, mul_comm, mul_left_comm)

  joint-none : (s : ℕ) → joint minus (a * 2 ^ (ea - eb)) b ≡ 0 → Word 0 ≡ delivered f (units f s (joint minus (a * 2 ^ ea) (b * 2 ^ eb)))
  joint-none s z = sym (delivered-zero f (units f s (joint minus (a * 2 ^ ea) (b * 2 ^ eb))) (apart-joint ∙ ap (λ (y : ℕ). y * 2 ^ eb) z ∙ zero-mul (2 ^ eb)))

-- ---- what the functions of a sum were told, of magnitudes
module _ (f : Format) (k l a b : ℕ) (hl : l ≤ k) (ha : a ≡ 2 ^ (f.bits - 1) + k % 2 ^ (f.bits - 1))
    (hb : b ≡ 2 ^ (f.bits - 1) + l % 2 ^ (f.bits - 1)) where
  -- the first bit of a significand; the exponents; how far they lie apart
  abbrev q : ℕ
  q = 2 ^ (f.bits - 1)

  abbrev d : ℕ
  d = k / q - l / q

  pub ordered-asked : b ≤ a * 2 ^ d
  ordered-asked = subst (λ (z : ℕ). z ≤ a * 2 ^ d) (sym hb) (subst (λ (z : ℕ). q + l % q ≤ z * 2 ^ d) (sym ha) (at_most f k l hl).1)

  module _ (minus : Bool) (x : ℕ) (P : 0 < f.bits) (hx : x ≡ joint minus (a * 2 ^ d) b * 2 ^ (f.bits + 2) / 2 ^ d) where
    no-higher : l / q ≤ k / q
    no-higher = div_mono l q k q (pow_pos (f.bits - 1)) (pow_pos (f.bits - 1)) (mul-le-mul_right q hl)

    here : joint minus (a * 2 ^ (k / q)) (b * 2 ^ (l / q)) ≡ joint minus (size_at f k) (size_at f l)
    here =
        ap (λ (z : ℕ). joint minus (z * 2 ^ (k / q)) (b * 2 ^ (l / q))) ha
        ∙ ap (λ (z : ℕ). joint minus (size_at f k) (z * 2 ^ (l / q))) hb

    a-low : q ≤ a
    a-low = omega arith

    b-high : b < 2 ^ f.bits
    b-high = let m = mod-lt l (pow_pos (f.bits - 1)) in let t = double-power f.bits P in omega arith

    pub ordered-none : (s : ℕ) → x ≡ 0 → Word 0 ≡ delivered f (units f s (joint minus (size_at f k) (size_at f l)))
    ordered-none s z =
        joint-none f minus (k / q) a (l / q) b no-higher s (none-joint f.bits a b d P a-low b-high minus x hx z) ∙ ap
        (λ (y : ℕ). delivered f (units f s y)) here

    pub ordered-placed : (n s : ℕ) → f.bits + 2 ≤ n - f.bits → (x ≡ 0 → ⊥)
        → delivered f (placed f n s x (k / q + (n - f.bits - (f.bits + 2))) 0) ≡ delivered f (units f s (joint minus (size_at f k) (size_at f l)))
    ordered-placed n s room some =
        joint-placed f minus (k / q) a (l / q) b no-higher n (f.bits + 2) s x P room hx (some-long f.bits a b d P a-low b-high minus x hx some)
        ∙ ap (λ (y : ℕ). delivered f (units f s y)) here

-- ---- and of words
module _ (f : Format) (S : Sound f) where
  pub words-combined : (s a t b k l : ℕ) → s ≡ sign_of f a → k ≡ magnitude f a → l ≡ magnitude f b → (exponent_of f a ≡ 0 → ⊥) → (exponent_of f b ≡ 0 → ⊥)
      → delivered f (together s (size_at f k) t (size_at f l) (2 ^ (f.bits + f.excess))) ≡ combined f a t b
  words-combined s a t b k l hs hk hl na nb =
      ap (λ (z : ℕ). delivered f (together z (size_at f k) t (size_at f l) (2 ^ (f.bits + f.excess)))) hs
      ∙ ap (λ (z : ℕ). delivered f (together (sign_of f a) z t (size_at f l) (2 ^ (f.bits + f.excess)))) (sized f S a k hk na)
      ∙ ap (λ (z : ℕ). delivered f (together (sign_of f a) (size_of f a) t z (2 ^ (f.bits + f.excess)))) (sized f S b l hl nb)
      ∙ numbers-passed f a b _ na nb

  -- one of the two is zero
  module _ (a t b : ℕ) (p q : Bool) (hp : p ≡ is_reserved f a) (hq : q ≡ is_reserved f b) (n : (p || q) ≡ false) where
    pub left-none : (w : ℕ) → exponent_of f a ≡ 0 → Word w ≡ delivered f (units f t (size_of f b)) → Word w ≡ combined f a t b
    left-none w z h =
        h
        ∙ sym (nothing_left f (sign_of f a) (size_of f a) t (size_of f b) (2 ^ (f.bits + f.excess)) (size_none f a z))
        ∙ passed (is_reserved f a) (is_reserved f b) p q _ hp hq n

    pub right-none : (w s : ℕ) → exponent_of f b ≡ 0 → s ≡ sign_of f a → Word w ≡ delivered f (units f s (size_of f a)) → Word w ≡ combined f a t b
    right-none w s z hs h =
        h
        ∙ ap (λ (y : ℕ). delivered f (units f y (size_of f a))) hs
        ∙ sym (nothing_right f (sign_of f a) (size_of f a) t (size_of f b) (2 ^ (f.bits + f.excess)) (size_none f b z))
        ∙ passed (is_reserved f a) (is_reserved f b) p q _ hp hq n

  -- the word of a number, from its magnitude
  alone-word : (r s w : ℕ) → (exponent_of f w ≡ 0 → ⊥) → r ≡ word_of f s (exponent_of f w) (fraction_of f w) → Word r ≡ delivered f (units f s (size_of f w))
  alone-word r s w n hr =
      let l = fraction-lt f S w in
      let d = double-power f.bits S.first in
      let g = exponent_lt f S w in
      let v = S.range in
      let k : exponent_of f w ≤ f.largest = omega arith in
      let x : significand_of f w - 2 ^ (f.bits - 1) ≡ fraction_of f w = omega arith in
      judged-word f s (significand_of f w) (exponent_of f w) r n k (hr ∙ ap (λ (z : ℕ). word_of f s (exponent_of f w) z) (sym x))
      ∙ alone-delivered f s w (exponent_of f w) (significand_of f w) S.first refl n refl (omega arith) (omega arith)

  -- the sum, or the difference
  module _ (a b : ℕ) where
    scaled : (t : ℕ)
        → combined f a t b
        ≡ pick (is_reserved f a) Reserved
        (pick (is_reserved f b) Reserved
        (delivered f
        (together (sign_of f a) (size_of f a * 2 ^ (f.bits + f.excess)) t (size_of f b * 2 ^ (f.bits + f.excess))
        (2 ^ (f.bits + f.excess) * 2 ^ (f.bits + f.excess)))))
    scaled t =
        ap (λ (z : Delivery). pick (is_reserved f a) Reserved (pick (is_reserved f b) Reserved z))
        (sym (scaled-sum f (sign_of f a) (size_of f a) t (size_of f b) (2 ^ (f.bits + f.excess)) (pow_pos (f.bits + f.excess))))

    pub combined-sum : (minus : Bool) (t : ℕ) → t ≡ pick minus (1 - sign_of f b) (sign_of f b) → combined f a t b ≡ pick minus (difference f a b) (sum f a b)
    combined-sum true t e = ap (λ (z : ℕ). combined f a z b) e ∙ scaled (1 - sign_of f b)
    combined-sum false t e = ap (λ (z : ℕ). combined f a z b) e ∙ scaled (sign_of f b)

-- as the code makes it
pub alone-made : (r s w e k : ℕ) → s < 2 → e ≡ exponent_of F w → (e ≡ 0 → ⊥) → k ≡ magnitude F w → r ≡ swapped (s * magnitudes F + k)
    → Word r ≡ delivered F (units F s (size_of F w))
alone-made r s w e k hs he n hk hr = alone-word F F-sound r s w (λ z. n (he ∙ z)) (magnitude-word s w k r hs hk hr)
