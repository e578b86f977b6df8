-- The laws of `rounded`, over the number p of digits. Assumes nothing.
use Rattle.std.proofs.Common.{◌≡◌, ℕ, ◌+◌, ◌-◌, ◌*◌, ◌/◌, ◌^◌, ◌<◌, ◌≤◌, Bool, true, false, not, T, ltb, sym, refl, ap, ◌∙◌, subst, le_trans, le_of_eq, lt_of_lt_of_le, lt_of_le_of_lt, mul-le-mul_right, mul_assoc, mul_comm, div-lt_iff_lt-mul, add-mul, le_antisymm, mul-le-mul_left, mul-pos, one-mul, lt_of_not-le, le-div_iff_mul-le, mul-one, not-le_of_lt, div-mul-le_self, mul_left_comm, arith, ltb→lt, nltb→le, pow_pos, pow_mono, pow-add, le-ltb, lt-ltb}
use native.Mathlib.Nat.{lt-div-mul-add, div-div-eq-div-mul, mul-div-mul_right, add-mul-div_right}
use native.Mathlib.Decide.{ℕ_discrete}
use lib.Ieee.{size}
use lib.Ieee.Digits.{size-lt, size-le, size_reaches}
use lib.Ieee.Nearest.{div_mono, div_same}
use Rattle.numbers.specs.Choice.{pick}
use Rattle.floating.specs.Round.{near, places, Rounded, carried, rounded}
use Rattle.floating.specs.Working.{Enough, Normal}
use Rattle.floating.proofs.Arithmetic.{pow-two, double-power}

-- ---- the nearest whole number

module _ (n d : ℕ) (D : 0 < d) where
  twice-pos : 0 < d * 2
  twice-pos = omega arith

  -- near n d is at most half a unit above n / d
  pub near-over : near n d * (d * 2) ≤ n * 2 + d
  near-over = div-mul-le_self (n * 2 + d) (d * 2)

  -- and less than half a unit below: a half goes up
  pub near-under : n * 2 < near n d * (d * 2) + d
  near-under =
      let l : n * 2 + d < near n d * (d * 2) + d * 2 = lt-div-mul-add twice-pos in
      omega arith

  pub near-ge : (a : ℕ) → a * d ≤ n → a ≤ near n d
  near-ge a h =
      (le-div_iff_mul-le twice-pos).1
      (let e : a * (d * 2) ≡ a * d * 2 = sym (mul_assoc a d 2) in
      let l : a * d * 2 ≤ n * 2 = mul-le-mul_right 2 h in
      omega arith)

  pub near_le : (b : ℕ) → n < b * d → near n d ≤ b
  near_le b h =
      let e : (b + 1) * (d * 2) ≡ b * d * 2 + d * 2 =
      add-mul b 1 (d * 2) ∙ ap (λ (z : ℕ). z + 1 * (d * 2)) (sym (mul_assoc b d 2)) ∙ ap (λ (z : ℕ). b * d * 2 + z) (one-mul (d * 2)) in
      let h2 : n * 2 + d < (b + 1) * (d * 2) = omega arith in
      let l : near n d < b + 1 = (div-lt_iff_lt-mul twice-pos).1 h2 in
      omega arith

-- a larger fraction is no nearer to a smaller number
pub near-mono : (a b c d : ℕ) → 0 < b → 0 < d → a * d ≤ c * b → near a b ≤ near c d
near-mono a b c d B D h =
    div_mono (a * 2 + b) (b * 2) (c * 2 + d) (d * 2) (twice-pos a b B) (twice-pos c d D)
    (let e : (a * 2 + b) * (d * 2) ≡ a * d * 4 + b * d * 2 = add-mul (a * 2) b (d * 2) ∙ simp (mul_assoc, mul_comm, mul_left_comm) (omega arith) in
    let f : (c * 2 + d) * (b * 2) ≡ c * b * 4 + b * d * 2 = add-mul (c * 2) d (b * 2) ∙ simp (mul_assoc, mul_comm, mul_left_comm) (omega arith) in
    omega arith)

pub near_same : (a b c d : ℕ) → 0 < b → 0 < d → a * d ≡ c * b → near a b ≡ near c d
near_same a b c d B D e = le_antisymm (near-mono a b c d B D (le_of_eq e)) (near-mono c d a b D B (le_of_eq (sym e)))

-- At an even unit only the whole part counts: what is below it never makes or unmakes a half.
pub near-floor : (n c u : ℕ) → 0 < c → 0 < u → near n (c * (u * 2)) ≡ near (n / c) (u * 2)
near-floor n c u C U =
    let W : 0 < u * 2 = omega arith in
    let one : (n * 2 + c * (u * 2)) / (c * (u * 2) * 2) ≡ (n + c * u) / (c * (u * 2)) =
    ap (λ (z : ℕ). z / (c * (u * 2) * 2)) (ap (λ (z : ℕ). n * 2 + z) (sym (mul_assoc c u 2)) ∙ sym (add-mul n (c * u) 2))
    ∙ mul-div-mul_right (n + c * u) (c * (u * 2)) (pow_pos 1) in
    let two : (n / c * 2 + u * 2) / (u * 2 * 2) ≡ (n / c + u) / (u * 2) =
    ap (λ (z : ℕ). z / (u * 2 * 2)) (sym (add-mul (n / c) u 2)) ∙ mul-div-mul_right (n / c + u) (u * 2) (pow_pos 1) in
    let mid : (n + c * u) / c ≡ n / c + u = ap (λ (z : ℕ). (n + z) / c) (mul_comm c u) ∙ add-mul-div_right n u C in
    one ∙ sym (div-div-eq-div-mul (n + c * u) c (u * 2)) ∙ ap (λ (z : ℕ). z / (u * 2)) mid ∙ sym two

-- ---- the places

size-gt : (n j : ℕ) → 2 ^ j ≤ n → j < size n
size-gt n j h = lt_of_not-le (λ (g : size n ≤ j). not-le_of_lt (lt_of_lt_of_le (size-lt n) (pow_mono g)) h)

shuffle : (den k i j : ℕ) → i + k ≡ j → den * 2 ^ k * 2 ^ i ≡ 2 ^ j * den
shuffle den k i j e = mul_assoc den (2 ^ k) (2 ^ i) ∙ ap (λ (z : ℕ). den * z) (mul_comm (2 ^ k) (2 ^ i) ∙ pow-two i k j e) ∙ mul_comm den (2 ^ j)

-- the value of what is rounded, after the carry
unfoldable pub worth : Rounded → ℕ
worth x = x.sig * 2 ^ x.exp

module _ (p num den : ℕ) (P : 0 < p) (D : 0 < den) where
  pub normal-places : Enough p num den → Normal p num den (places p num den)
  normal-places h =
      let w = num / den in
      let z = size w in
      let k = places p num den in
      let big : p - 1 < z = size-gt w (p - 1) ((le-div_iff_mul-le D).1 (le_trans (le_of_eq (mul_comm (2 ^ (p - 1)) den)) h)) in
      let e1 : p - 1 + k ≡ z - 1 = omega arith in
      let e2 : p + k ≡ z = omega arith in
      let less : z - 1 < z = omega arith in
      record {
        low = le_trans (le_of_eq (shuffle den k (p - 1) (z - 1) e1)) ((le-div_iff_mul-le D).0 (size_reaches w (z - 1) less));
        high = lt_of_lt_of_le ((div-lt_iff_lt-mul D).0 (size-lt w)) (le_of_eq (sym (shuffle den k p z e2)));
      }

  -- the one k
  places-only : (k : ℕ) → Normal p num den k → places p num den ≡ k
  places-only k h =
      let w = num / den in
      let lo : 2 ^ (p - 1 + k) ≤ w = (le-div_iff_mul-le D).1 (le_trans (le_of_eq (sym (shuffle den k (p - 1) (p - 1 + k) refl))) h.low) in
      let hi : w < 2 ^ (p + k) = (div-lt_iff_lt-mul D).1 (lt_of_lt_of_le h.high (le_of_eq (shuffle den k p (p + k) refl))) in
      let a : p - 1 + k < size w = size-gt w (p - 1 + k) lo in
      let b : size w ≤ p + k = size-le w (p + k) hi in
      omega arith

  -- so the rounding may be worked out at any k that is seen to be right
  pub rounded-at : (k : ℕ) → Normal p num den k → rounded p num den ≡ carried p (near num (den * 2 ^ k)) k
  unfolding rounded
  rounded-at k h = ap (λ (z : ℕ). carried p (near num (den * 2 ^ z)) z) (places-only k h)

  pub near-in : (k : ℕ) → Normal p num den k → (2 ^ (p - 1) ≤ near num (den * 2 ^ k)) × (near num (den * 2 ^ k) ≤ 2 ^ p)
  near-in k h =
      let u = den * 2 ^ k in
      let U : 0 < u = mul-pos D (pow_pos k) in (
        near-ge num u U (2 ^ (p - 1)) (le_trans (le_of_eq (mul_comm (2 ^ (p - 1)) u)) h.low),
        near_le num u U (2 ^ p)
            (lt_of_lt_of_le h.high (le_of_eq (mul_comm u (2 ^ p)))),
      )

half-power : (p : ℕ) → 0 < p → 2 ^ (p - 1) < 2 ^ p
half-power p P = let q = double-power p P in let pp = pow_pos (p - 1) in omega arith

-- ---- the carry

-- the carry by its test
abbrev pub by : Bool → ℕ → ℕ → ℕ → Rounded
by t p r k = pick t (record { sig = r; exp = k }) (record { sig = 2 ^ (p - 1); exp = k + 1 })

pub carried-in : (p r k : ℕ) → 0 < p → 2 ^ (p - 1) ≤ r → (2 ^ (p - 1) ≤ (carried p r k).sig) × ((carried p r k).sig < 2 ^ p)
carried-in p r k P lo = go (ltb r (2 ^ p)) (ltb→lt r (2 ^ p))
  where
    go : (t : Bool) → (T t → r < 2 ^ p) → (2 ^ (p - 1) ≤ (by t p r k).sig) × ((by t p r k).sig < 2 ^ p)
    go true h = (lo, h tt)
    go false h = (le_of_eq refl, half-power p P)

pub carried-worth : (p r k : ℕ) → 0 < p → r ≤ 2 ^ p → worth (carried p r k) ≡ r * 2 ^ k
unfolding worth
carried-worth p r k P hi = go (ltb r (2 ^ p)) (nltb→le r (2 ^ p))
  where
    go : (t : Bool) → (T (not t) → 2 ^ p ≤ r) → (by t p r k).sig * 2 ^ (by t p r k).exp ≡ r * 2 ^ k
    go true h = refl
    go false h =
        let e : r ≡ 2 ^ p = le_antisymm hi (h tt) in
        ap (λ (z : ℕ). 2 ^ (p - 1) * z) (pow-add 2 k 1 ∙ mul_comm (2 ^ k) 2)
        ∙ sym (mul_assoc (2 ^ (p - 1)) 2 (2 ^ k))
        ∙ ap (λ (z : ℕ). z * 2 ^ k) (double-power p P ∙ sym e)

-- ---- the laws of rounded
module _ (p num den : ℕ) (P : 0 < p) (D : 0 < den) (E : Enough p num den) where
  -- a significand of p digits
  pub rounded-in : (2 ^ (p - 1) ≤ (rounded p num den).sig) × ((rounded p num den).sig < 2 ^ p)
  rounded-in =
      let k = places p num den in
      let N = normal-places p num den P D E in
      subst (λ (x : Rounded). (2 ^ (p - 1) ≤ x.sig) × (x.sig < 2 ^ p)) (sym (rounded-at p num den P D k N))
      (carried-in p (near num (den * 2 ^ k)) k P (near-in p num den P D k N).0)

  pub rounded-worth : worth (rounded p num den) ≡ near num (den * 2 ^ places p num den) * 2 ^ places p num den
  rounded-worth =
      let k = places p num den in
      let N = normal-places p num den P D E in
      ap worth (rounded-at p num den P D k N) ∙ carried-worth p (near num (den * 2 ^ k)) k P (near-in p num den P D k N).1

  -- Half a unit at most above the exact value, and less than half a unit below it, the unit being 2 ^ places: so a half goes up.
  pub rounded-over : worth (rounded p num den) * den * 2 ≤ num * 2 + den * 2 ^ places p num den
  rounded-over =
      let k = places p num den in
      let u = den * 2 ^ k in
      le_trans (le_of_eq (ap (λ (z : ℕ). z * den * 2) rounded-worth ∙ simp (mul_assoc, mul_comm, mul_left_comm))) (near-over num u (mul-pos D (pow_pos k)))

  pub rounded-under : num * 2 < worth (rounded p num den) * den * 2 + den * 2 ^ places p num den
  rounded-under =
      let k = places p num den in
      let u = den * 2 ^ k in
      lt_of_lt_of_le (near-under num u (mul-pos D (pow_pos k)))
      (le_of_eq (ap (λ (z : ℕ). z + u) (sym (ap (λ (z : ℕ). z * den * 2) rounded-worth ∙ simp (mul_assoc, mul_comm, mul_left_comm)))))

-- ---- equal fractions round alike
pub rounded-same : (p a b c d : ℕ) → 0 < b → 0 < d → a * d ≡ c * b → rounded p a b ≡ rounded p c d
unfolding rounded
rounded-same p a b c d B D e =
    let k = places p c d in
    ap (λ (z : ℕ). carried p (near a (b * 2 ^ (size z - p))) (size z - p)) (div_same a b c d B D e)
    ∙ ap (λ (z : ℕ). carried p z k) (near_same a (b * 2 ^ k) c (d * 2 ^ k) (mul-pos B (pow_pos k)) (mul-pos D (pow_pos k))
    (sym (mul_assoc a d (2 ^ k)) ∙ ap (λ (z : ℕ). z * 2 ^ k) e ∙ mul_assoc c b (2 ^ k)))

-- ---- the carry moves the exponent by one at most
pub carried-steps : (p r k : ℕ) → (k ≤ (carried p r k).exp) × ((carried p r k).exp ≤ k + 1)
carried-steps p r k = go (ltb r (2 ^ p))
  where
    go : (t : Bool) → (k ≤ (by t p r k).exp) × ((by t p r k).exp ≤ k + 1)
    go true = (omega arith, omega arith)
    go false = (omega arith, omega arith)

-- ---- the exponent is past l exactly where the number, rounded to whole units of 2 ^ l, reaches 2 ^ p of them
module _ (p num den l : ℕ) (D : 0 < den) where
  abbrev unit : ℕ
  unit = den * 2 ^ l

  U : 0 < unit
  U = mul-pos D (pow_pos l)

  twice : 2 ^ p * (unit * 2) ≡ 2 ^ p * unit * 2
  twice = sym (mul_assoc (2 ^ p) unit 2)

  few-places : num < 2 ^ p * unit → places p num den ≤ l
  few-places h =
      let e : 2 ^ p * unit ≡ 2 ^ (p + l) * den = mul_comm (2 ^ p) unit ∙ shuffle den l p (p + l) refl in
      let s = size-le (num / den) (p + l) ((div-lt_iff_lt-mul D).1 (lt_of_lt_of_le h (le_of_eq e))) in
      omega arith

  at_places : (k : ℕ) → places p num den ≡ k → rounded p num den ≡ carried p (near num (den * 2 ^ k)) k
  unfolding rounded
  at_places k e = ap (λ (k : ℕ). carried p (near num (den * 2 ^ k)) k) e

  steps : (places p num den ≤ (rounded p num den).exp) × ((rounded p num den).exp ≤ places p num den + 1)
  unfolding rounded
  steps = carried-steps p (near num (den * 2 ^ places p num den)) (places p num den)

  pub rounded-within : num * 2 + unit < 2 ^ p * (unit * 2) → (rounded p num den).exp ≤ l
  rounded-within h = go (ℕ_discrete (places p num den) l)
    where
      short : places p num den ≤ l
      short = few-places (let e = twice in omega arith)

      under : near num unit < 2 ^ p
      under = (div-lt_iff_lt-mul (twice-pos num unit U)).1 h

      go : Dec (places p num den ≡ l) → (rounded p num den).exp ≤ l
      go (yes e) = le_of_eq (ap (λ (x : Rounded). x.exp) (at_places l e) ∙ simp (lt-ltb (near num unit) (2 ^ p) under))
      go (no e) = let s = steps.1 in omega (arith, short, e)

  pub rounded-past : 2 ^ p * (unit * 2) ≤ num * 2 + unit → l < (rounded p num den).exp
  rounded-past h = go (ℕ_discrete (places p num den) l)
    where
      over : 2 ^ p ≤ near num unit
      over = (le-div_iff_mul-le (twice-pos num unit U)).1 h

      -- with fewer places the number is less than half of that
      short : places p num den < l → ⊥
      short g =
          let k = places p num den in
          let less : num / den < 2 ^ (p + k) = lt_of_lt_of_le (size-lt (num / den)) (pow_mono (omega arith)) in
          let a : num < 2 ^ (p + k) * den = (div-lt_iff_lt-mul D).0 less in
          let b : 2 ^ (p + k) * den * 2 ≤ 2 ^ p * unit =
          le_trans
          (le_of_eq (mul_comm (2 ^ (p + k) * den) 2 ∙ sym (mul_assoc 2 (2 ^ (p + k)) den) ∙ ap (λ (z : ℕ). z * den) (pow-two 1 (p + k) (1 + (p + k)) refl)))
          (le_trans (mul-le-mul_right den (pow_mono (omega (arith, g))))
          (le_of_eq (sym (mul_comm (2 ^ p) unit ∙ shuffle den l p (p + l) refl)))) in
          let c : unit ≤ 2 ^ p * unit = le_trans (le_of_eq (sym (one-mul unit))) (mul-le-mul_right unit (pow_pos p)) in
          let e = twice in
          omega arith

      go : Dec (places p num den ≡ l) → l < (rounded p num den).exp
      go (yes e) =
          let one : (rounded p num den).exp ≡ l + 1 = ap (λ (x : Rounded). x.exp) (at_places l e) ∙ simp (le-ltb (near num unit) (2 ^ p) over) in
          omega arith
      go (no e) = let s = steps.0 in let n : (places p num den < l → ⊥) = short in omega (arith, e, n)

-- so it is 0 exactly where the number, rounded to a whole number, stays below 2 ^ p
module _ (p num den : ℕ) (D : 0 < den) where
  pub rounded-below : num * 2 + den < 2 ^ p * (den * 2) → (rounded p num den).exp ≡ 0
  rounded-below h =
      let e = mul-one den in
      let z : (rounded p num den).exp ≤ 0 = rounded-within p num den 0 D (rw e h) in
      omega arith

  pub rounded-reaches : 2 ^ p * (den * 2) ≤ num * 2 + den → (rounded p num den).exp ≡ 0 → ⊥
  rounded-reaches h z =
      let e = mul-one den in
      let s : 0 < (rounded p num den).exp = rounded-past p num den 0 D (rw e h) in
      omega arith

-- ---- Only the whole part counts where it has more than p digits: what is below it makes or unmakes no half.
module _ (p n d x k : ℕ) (D : 0 < d) (whole : x ≡ n / d) (long : 2 ^ p ≤ x) (N : Normal p x 1 k) where
  some : 0 < k
  some =
      let a : 2 ^ p * 2 ^ 0 < 2 ^ p * 2 ^ k =
      lt_of_le_of_lt (le_trans (le_of_eq (mul-one (2 ^ p))) long)
      (lt_of_lt_of_le N.high (le_of_eq (ap (λ (y : ℕ). y * 2 ^ p) (one-mul (2 ^ k)) ∙ mul_comm (2 ^ k) (2 ^ p)))) in
      lt_of_not-le (λ (g : k ≤ 0). not-le_of_lt a (mul-le-mul_left (2 ^ p) (pow_mono g)))

  scaled : (q : ℕ) → d * 2 ^ k * q ≡ 1 * 2 ^ k * q * d
  scaled q = mul_assoc d (2 ^ k) q ∙ mul_comm d (2 ^ k * q) ∙ ap (λ (z : ℕ). z * q * d) (sym (one-mul (2 ^ k)))

  pub floor-normal : Normal p n d k
  floor-normal =
      record {
        low = le_trans (le_of_eq (scaled (2 ^ (p - 1)))) ((le-div_iff_mul-le D).0 (le_trans N.low (le_of_eq whole)));
        high = lt_of_lt_of_le ((div-lt_iff_lt-mul D).0 (lt_of_le_of_lt (le_of_eq (sym whole)) N.high)) (le_of_eq (sym (scaled (2 ^ p))));
      }

  pub floor-near : near x (1 * 2 ^ k) ≡ near n (d * 2 ^ k)
  floor-near =
      let h = some in
      let u = double-power k some in
      ap (near x) (one-mul (2 ^ k))
      ∙ ap (λ (y : ℕ). near y (2 ^ k)) whole
      ∙ sym (ap (λ (y : ℕ). near n (d * y)) (sym u) ∙ near-floor n d (2 ^ (k - 1)) D (pow_pos (k - 1)) ∙ ap (near (n / d)) u)

-- ---- a significand of p digits is the nearest to itself
module _ (p m : ℕ) (lo : 2 ^ (p - 1) ≤ m) (hi : m < 2 ^ p) where
  pub itself-normal : Normal p m 1 0
  itself-normal = record {
    low = le_trans (le_of_eq (one-mul (2 ^ (p - 1)))) lo;
    high = lt_of_lt_of_le hi (le_of_eq (sym (one-mul (2 ^ p))));
  }

  pub itself-near : m ≡ near m (1 * 2 ^ 0)
  itself-near = whole m
    where
      whole : (x : ℕ) → x ≡ (x * 2 + 1) / 2
      whole x = omega arith

  pub itself-carried : (e : ℕ) → carried p m e ≡ record { sig = m; exp = e }
  itself-carried e = simp (lt-ltb m (2 ^ p) hi)

-- ---- the exponent with the digits after the first below it: the carry adds one to the exponent by itself
pub carry-added : (p e m : ℕ) → 0 < p → 2 ^ (p - 1) ≤ m → m ≤ 2 ^ p
    → e * 2 ^ (p - 1) + (m - 2 ^ (p - 1)) ≡ (carried p m e).exp * 2 ^ (p - 1) + ((carried p m e).sig - 2 ^ (p - 1))
carry-added p e m P lo hi = go (ltb m (2 ^ p)) (nltb→le m (2 ^ p))
  where
    q : ℕ
    q = 2 ^ (p - 1)

    go : (t : Bool) → (T (not t) → 2 ^ p ≤ m) → e * q + (m - q) ≡ (by t p m e).exp * q + ((by t p m e).sig - q)
    go true h = refl
    go false h =
        let d = double-power p P in
        let s : (e + 1) * q ≡ e * q + q = add-mul e 1 q ∙ ap (λ (z : ℕ). e * q + z) (one-mul q) in
        let t : 2 ^ p ≤ m = h tt in
        omega arith

-- ---- of n digits the first p stand before the point
pub normal-digits : (p n y : ℕ) → 0 < p → p ≤ n → 2 ^ (n - 1) ≤ y → y < 2 ^ n → Normal p y 1 (n - p)
normal-digits p n y P l lo hi =
    let e : n - p + (p - 1) ≡ n - 1 = omega arith in
    let g : n - p + p ≡ n = omega arith in
    record {
      low = le_trans (le_of_eq (ap (λ (z : ℕ). z * 2 ^ (p - 1)) (one-mul (2 ^ (n - p))) ∙ pow-two (n - p) (p - 1) (n - 1) e)) lo;
      high = lt_of_lt_of_le hi (le_of_eq (sym (ap (λ (z : ℕ). z * 2 ^ p) (one-mul (2 ^ (n - p))) ∙ pow-two (n - p) p n g)));
    }
