-- What a format delivers depends on the number alone, and may be worked out from any fraction that is the number up to a power of two. Over the format.
-- Assumes nothing.
use Rattle.std.proofs.Common.{◌≡◌, ℕ, ◌+◌, ◌-◌, ◌*◌, ◌/◌, ◌^◌, ◌<◌, ◌≤◌, Bool, true, false, ltb, ◌⊎◌, sym, refl, ap, ◌∙◌, inl, inr, le_trans, le_of_eq, lt_of_lt_of_le, lt_of_le_of_lt, add-zero, mul-le-mul_right, mul_assoc, mul_comm, eq-zero-or-pos, lt_of_mul-lt-mul_right, mul-le-mul_left, mul-lt-mul_of_pos_right, mul-pos, one-mul, zero-mul, mul-one, mul_right_comm, le_of_mul-le-mul_right, mul_left_comm, arith, lit<, pow_pos, pow_mono, pow-add, le-ltb, lt-ltb, eq-eqb, ne_eqb}
use native.Mathlib.Nat.{sub-zero}
use native.Mathlib.Nat.{eq_of_mul-eq-mul_right}
use Rattle.floating.specs.declared.Delivery.TheVariants.{Word, Overflow, Underflow}
use Rattle.floating.specs.Format.{Format, word_of}
use Rattle.floating.specs.Exact.{Exact}
use Rattle.floating.specs.Round.{near, places, Rounded, carried, rounded}
use Rattle.floating.specs.Delivered.{judged, delivered}
use Rattle.floating.specs.Working.{Enough, Normal, placed, settled}
use Rattle.floating.proofs.Arithmetic.{double-power}
use Rattle.floating.proofs.Rounding.{by, carried-steps, normal-places, normal-digits, floor-normal, floor-near, rounded-at, rounded-same, rounded-below}
use Rattle.floating.proofs.Rounding.{near_same}

-- ---- N / D is n / d, up times doubled and down times halved
module _ (p N D n d k up down : ℕ) (P : 0 < p) (DD : 0 < D) (dd : 0 < d) (E : N * (d * 2 ^ down) ≡ n * 2 ^ up * D) (M : Normal p n d k) where
  W : 0 < d * 2 ^ down
  W = mul-pos dd (pow_pos down)

  U : 0 < 2 ^ up * D
  U = mul-pos (pow_pos up) DD

  joined : n * (2 ^ up * D) ≡ N * (d * 2 ^ down)
  joined = sym (mul_assoc n (2 ^ up) D) ∙ sym E

  -- below half the smallest number: no carry reaches it
  below : k + up < down → N * 2 < 2 ^ p * D
  below h =
      let two : 2 ≡ 2 ^ 1 = refl in
      let a : d * 2 ^ k * 2 ^ p * (2 ^ up * D) * 2 ≡ 2 ^ p * D * (d * 2 ^ (k + up + 1)) =
      ap (λ (z : ℕ). d * 2 ^ k * 2 ^ p * (2 ^ up * D) * z) two ∙ simp (pow-add, mul_assoc, mul_comm, mul_left_comm) in
      let b : 2 ^ p * D * (d * 2 ^ (k + up + 1)) ≤ 2 ^ p * D * (d * 2 ^ down) = mul-le-mul_left (2 ^ p * D) (mul-le-mul_left d (pow_mono (omega arith))) in
      let c : N * (d * 2 ^ down) < d * 2 ^ k * 2 ^ p * (2 ^ up * D) = lt_of_le_of_lt (le_of_eq (sym joined)) (mul-lt-mul_of_pos_right M.high U) in
      let e : N * 2 * (d * 2 ^ down) ≡ N * (d * 2 ^ down) * 2 = mul_right_comm N 2 (d * 2 ^ down) in
      lt_of_mul-lt-mul_right (d * 2 ^ down) (lt_of_le_of_lt (le_of_eq e) (lt_of_lt_of_le (mul-lt-mul_of_pos_right c (pow_pos 1)) (le_trans (le_of_eq a) b)))

  none : k + up < down → (rounded p N D).exp ≡ 0
  none h =
      let l : N * 2 < 2 ^ p * D = below h in
      let one : D ≤ 2 ^ p * D = le_trans (le_of_eq (sym (one-mul D))) (mul-le-mul_right D (pow_pos p)) in
      let e : 2 ^ p * (D * 2) ≡ 2 ^ p * D * 2 = sym (mul_assoc (2 ^ p) D 2) in
      rounded-below p N D DD (omega arith)

  module _ (j : ℕ) (J : j + down ≡ k + up) where
    powers : 2 ^ j * 2 ^ down ≡ 2 ^ k * 2 ^ up
    powers = sym (pow-add 2 j down) ∙ ap (λ (z : ℕ). 2 ^ z) J ∙ pow-add 2 k up

    moved : (q : ℕ) → d * 2 ^ k * q * (2 ^ up * D) ≡ D * 2 ^ j * q * (d * 2 ^ down)
    moved q =
        let a : d * 2 ^ k * q * (2 ^ up * D) ≡ d * q * D * (2 ^ k * 2 ^ up) = simp (mul_assoc, mul_comm, mul_left_comm) in
        let b : D * 2 ^ j * q * (d * 2 ^ down) ≡ d * q * D * (2 ^ j * 2 ^ down) = simp (mul_assoc, mul_comm, mul_left_comm) in
        a ∙ ap (λ (z : ℕ). d * q * D * z) (sym powers) ∙ sym b

    normal-moved : Normal p N D j
    normal-moved = record {
      low = le_of_mul-le-mul_right (le_trans (le_of_eq (sym (moved (2 ^ (p - 1))))) (le_trans (mul-le-mul_right (2 ^ up * D) M.low) (le_of_eq joined))) W;
      high =
          lt_of_mul-lt-mul_right (d * 2 ^ down)
          (lt_of_le_of_lt (le_of_eq (sym joined)) (lt_of_lt_of_le (mul-lt-mul_of_pos_right M.high U) (le_of_eq (moved (2 ^ p)))));
    }

    near-moved : near N (D * 2 ^ j) ≡ near n (d * 2 ^ k)
    near-moved =
        let a : N * (d * 2 ^ k) * 2 ^ down ≡ N * (d * 2 ^ down) * 2 ^ k = simp (mul_assoc, mul_comm) in
        let b : n * (2 ^ up * D) * 2 ^ k ≡ n * D * (2 ^ k * 2 ^ up) = simp (mul_assoc, mul_comm, mul_left_comm) in
        let c : n * D * (2 ^ j * 2 ^ down) ≡ n * (D * 2 ^ j) * 2 ^ down = simp (mul_assoc, mul_comm, mul_left_comm) in
        near_same N (D * 2 ^ j) n (d * 2 ^ k) (mul-pos DD (pow_pos j)) (mul-pos dd (pow_pos k))
        (eq_of_mul-eq-mul_right (2 ^ down) (pow_pos down) (N * (d * 2 ^ k)) (n * (D * 2 ^ j))
        (a ∙ ap (λ (z : ℕ). z * 2 ^ k) (sym joined) ∙ b ∙ ap (λ (z : ℕ). n * D * z) (sym powers) ∙ c))

    pub rounded-moved : rounded p N D ≡ carried p (near n (d * 2 ^ k)) j
    rounded-moved = rounded-at p N D P DD j normal-moved ∙ ap (λ (z : ℕ). carried p z j) near-moved

-- ---- the judgement, by the exponent field
module _ (f : Format) (s m e : ℕ) where
  pub judged-under : e ≡ 0 → Underflow ≡ judged f s m e
  judged-under h = simp (eq-eqb e 0 h)

  pub judged-over : (e ≡ 0 → ⊥) → f.largest < e → Overflow ≡ judged f s m e
  judged-over h g = simp (ne_eqb e 0 h, lt-ltb f.largest e g)

  pub judged-word : (w : ℕ) → (e ≡ 0 → ⊥) → e ≤ f.largest → w ≡ word_of f s e (m - 2 ^ (f.bits - 1)) → Word w ≡ judged f s m e
  judged-word w h g ew = ap Word ew ∙ sym (simp (ne_eqb e 0 h, le-ltb f.largest e g))

module _ (f : Format) where
  pub delivered-zero : (v : Exact) → v.num ≡ 0 → delivered f v ≡ Word 0
  unfolding delivered
  delivered-zero v h = simp (eq-eqb v.num 0 h)

  -- a number that is not zero, rounded
  abbrev in_units : Exact → Rounded
  in_units v = rounded f.bits (v.num * 2 ^ (f.bits + f.excess)) v.den

  pub delivered-some : (v : Exact) → (v.num ≡ 0 → ⊥) → delivered f v ≡ judged f v.sign (in_units v).sig (in_units v).exp
  unfolding delivered
  delivered-some v h = simp (ne_eqb v.num 0 h)

  -- only how far e lies above or below down counts
  pub settled-moved : (s e down e' down' m : ℕ) → e + down' ≡ e' + down → settled f s e down m ≡ settled f s e' down' m
  settled-moved s e down e' down' m h = go (ltb m (2 ^ f.bits))
    where
      go : (t : Bool)
          → judged f s (by t f.bits m e).sig ((by t f.bits m e).exp - down) ≡ judged f s (by t f.bits m e').sig ((by t f.bits m e').exp - down')
      go true = let g : e - down ≡ e' - down' = omega arith in ap (λ (z : ℕ). judged f s m z) g
      go false = let g : e + 1 - down ≡ e' + 1 - down' = omega arith in ap (λ (z : ℕ). judged f s (2 ^ (f.bits - 1)) z) g

  -- a carry adds one to the field, and no more
  pub settled-below : (s e down m : ℕ) → e < down → Underflow ≡ settled f s e down m
  settled-below s e down m h =
      judged-under f s (carried f.bits m e).sig ((carried f.bits m e).exp - down) (short (carried f.bits m e).exp (carried-steps f.bits m e).1)
    where
      short : (a : ℕ) → a ≤ e + 1 → a - down ≡ 0
      short a l = omega arith

  -- What is delivered of num / den may be worked out from n / d, where num / den * 2 ^ (bits + excess) is n / d * 2 ^ up / 2 ^ down.
  pub delivered-near : (s num den n d k m up down : ℕ) → 0 < f.bits → 0 < den → 0 < d → num * 2 ^ (f.bits + f.excess) * (d * 2 ^ down) ≡ n * 2 ^ up * den
      → Normal f.bits n d k → m ≡ near n (d * 2 ^ k)
      → settled f s (k + up) down m ≡ delivered f (record { sign = s; num = num; den = den })
  delivered-near s num den n d k m up down P DD dd E M hm =
      go (eq-zero-or-pos (down - (k + up))) ∙ sym (delivered-some (record { sign = s; num = num; den = den }) some)
    where
      there : 0 < n * 2 ^ up * den
      there = mul-pos (mul-pos (lt_of_lt_of_le (mul-pos (mul-pos dd (pow_pos k)) (pow_pos (f.bits - 1))) M.low) (pow_pos up)) DD

      some : num ≡ 0 → ⊥
      some z =
          let a : num * 2 ^ (f.bits + f.excess) * (d * 2 ^ down) ≡ 0 =
          ap (λ (y : ℕ). y * 2 ^ (f.bits + f.excess) * (d * 2 ^ down)) z
          ∙ ap (λ (y : ℕ). y * (d * 2 ^ down)) (zero-mul (2 ^ (f.bits + f.excess)))
          ∙ zero-mul (d * 2 ^ down) in
          let b : n * 2 ^ up * den ≡ 0 = sym E ∙ a in
          omega (arith, there)

      N : ℕ
      N = num * 2 ^ (f.bits + f.excess)

      go : (down - (k + up) ≡ 0) ⊎ (0 < down - (k + up))
          → settled f s (k + up) down m ≡ judged f s (rounded f.bits N den).sig (rounded f.bits N den).exp
      go (inl z) =
          let j = k + up - down in
          let J : j + down ≡ k + up = omega arith in
          let r : rounded f.bits N den ≡ carried f.bits m j =
          rounded-moved f.bits N den n d k up down P DD dd E M j J ∙ ap (λ (z : ℕ). carried f.bits z j) (sym hm) in
          settled-moved s (k + up) down j 0 m (omega arith)
          ∙ ap (λ (z : ℕ). judged f s (carried f.bits m j).sig z) (sub-zero (carried f.bits m j).exp)
          ∙ ap (λ (x : Rounded). judged f s x.sig x.exp) (sym r)
      go (inr h) =
          sym (settled-below s (k + up) down m (omega arith))
          ∙ judged-under f s (rounded f.bits N den).sig (rounded f.bits N den).exp (none f.bits N den n d k up down P DD dd E M (omega arith))

  -- equal fractions are delivered alike
  pub delivered-same : (s a b c d : ℕ) → 0 < b → 0 < d → a * d ≡ c * b
      → delivered f (record { sign = s; num = a; den = b }) ≡ delivered f (record { sign = s; num = c; den = d })
  delivered-same s a b c d B D E = go (eq-zero-or-pos a) (eq-zero-or-pos c)
    where
      go : (a ≡ 0) ⊎ (0 < a) → (c ≡ 0) ⊎ (0 < c) → delivered f (record { sign = s; num = a; den = b }) ≡ delivered f (record { sign = s; num = c; den = d })
      go (inl p) (inl q) = delivered-zero (record { sign = s; num = a; den = b }) p ∙ sym (delivered-zero (record { sign = s; num = c; den = d }) q)
      go (inl p) (inr q) =
          let z : a * d ≡ 0 = ap (λ (k : ℕ). k * d) p ∙ zero-mul d in
          let w : 0 < c * b = mul-pos q B in
          absurd (omega arith)
      go (inr p) (inl q) =
          let z : c * b ≡ 0 = ap (λ (k : ℕ). k * b) q ∙ zero-mul b in
          let w : 0 < a * d = mul-pos p D in
          absurd (omega arith)
      go (inr p) (inr q) =
          let u = 2 ^ (f.bits + f.excess) in
          let e : a * u * d ≡ c * u * b = mul_right_comm a u d ∙ ap (λ (k : ℕ). k * u) E ∙ mul_right_comm c b u in
          let r = rounded-same f.bits (a * u) b (c * u) d B D e in
          delivered-some (record { sign = s; num = a; den = b }) (λ z. omega arith)
          ∙ ap (λ (k : Rounded). judged f s k.sig k.exp) r
          ∙ sym (delivered-some (record { sign = s; num = c; den = d }) (λ z. omega arith))

  -- Once the whole part has more digits than are kept, it alone decides.
  pub delivered-floor : (s n d x up down : ℕ) → 0 < f.bits → 0 < d → x ≡ n / d → 2 ^ f.bits ≤ x
      → delivered f (record { sign = s; num = n * 2 ^ up; den = d * 2 ^ down }) ≡ delivered f (record { sign = s; num = x * 2 ^ up; den = 2 ^ down })
  delivered-floor s n d x up down P D hx long =
      let p = f.bits in
      let w = p + f.excess in
      let k = places p x 1 in
      let N : Normal p x 1 k = normal-places p x 1 P (lit< tt) enough in
      let m = near x (1 * 2 ^ k) in
      sym
      (delivered-near s (n * 2 ^ up) (d * 2 ^ down) n d k m (up + w) down P (mul-pos D (pow_pos down)) D (whole n d up w down)
      (floor-normal p n d x k D hx long N) (floor-near p n d x k D hx long N))
      ∙ delivered-near s (x * 2 ^ up) (2 ^ down) x 1 k m (up + w) down P (pow_pos down) (lit< tt) (alone x up w down) N refl
    where
      enough : Enough f.bits x 1
      enough =
          let d = double-power f.bits P in
          let e : 1 * 2 ^ (f.bits - 1) ≡ 2 ^ (f.bits - 1) = one-mul (2 ^ (f.bits - 1)) in
          omega arith

      whole : (n d i w j : ℕ) → n * 2 ^ i * 2 ^ w * (d * 2 ^ j) ≡ n * 2 ^ (i + w) * (d * 2 ^ j)
      whole n d i w j = simp (pow-add, mul_assoc, mul_comm, mul_left_comm)

      alone : (n i w j : ℕ) → n * 2 ^ i * 2 ^ w * (1 * 2 ^ j) ≡ n * 2 ^ (i + w) * 2 ^ j
      alone n i w j = simp (pow-add, one-mul, mul_assoc, mul_comm, mul_left_comm)

  -- ---- digits that are moved up to n, of which the first are rounded: what the code has before it packs
  module _ (n s x e down z m : ℕ) (P : 0 < f.bits) (le : f.bits ≤ n) (lo : 2 ^ (n - 1) ≤ x * 2 ^ z)
      (hi : x * 2 ^ z < 2 ^ n) (hm : m ≡ near (x * 2 ^ z) (2 ^ (n - f.bits))) where
    pub placed-settled : settled f s e (down + z) m ≡ delivered f (placed f n s x e down)
    placed-settled =
        let k = n - f.bits in
        let w = f.bits + f.excess in
        settled-moved s e (down + z) (k + e) (down + k + z) m (moved e down z k)
        ∙ delivered-near s (x * 2 ^ e) (2 ^ (down + k) * 2 ^ w) (x * 2 ^ z) 1 k m e (down + k + z) P (mul-pos (pow_pos (down + k)) (pow_pos w)) (lit< tt)
        (joined x e z (down + k) w)
        (normal-digits f.bits n (x * 2 ^ z) P le lo hi) (hm ∙ ap (near (x * 2 ^ z)) (sym (one-mul (2 ^ k))))
      where
        moved : (e down z k : ℕ) → e + (down + k + z) ≡ k + e + (down + z)
        moved e down z k = omega arith

        joined : (x i j l w : ℕ) → x * 2 ^ i * 2 ^ w * (1 * 2 ^ (l + j)) ≡ x * 2 ^ j * 2 ^ i * (2 ^ l * 2 ^ w)
        joined x i j l w = simp (pow-add, one-mul, mul_assoc, mul_comm, mul_left_comm)

  -- digits that are n already
  pub placed-here : (n s x e down m : ℕ) → 0 < f.bits → f.bits ≤ n → 2 ^ (n - 1) ≤ x → x < 2 ^ n → m ≡ near x (2 ^ (n - f.bits))
      → settled f s e down m ≡ delivered f (placed f n s x e down)
  placed-here n s x e down m P le lo hi hm =
      let same : x * 2 ^ 0 ≡ x = mul-one x in
      ap (λ (y : ℕ). settled f s e y m) (sym (add-zero down))
      ∙ placed-settled n s x e down 0 m P le (le_trans lo (le_of_eq (sym same))) (lt_of_le_of_lt (le_of_eq same) hi)
      (hm ∙ ap (λ (y : ℕ). near y (2 ^ (n - f.bits))) (sym same))
