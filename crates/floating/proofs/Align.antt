-- Digits that the code moves up, cuts off and adds: the whole part of a sum and of a difference, over the number of digits. Assumes nothing.
use Rattle.std.proofs.Common.{◌≡◌, ℕ, zero, suc, ◌+◌, ◌-◌, ◌*◌, ◌/◌, ◌%◌, ◌^◌, ◌<◌, ◌≤◌, min, Bool, true, false, not, T, eqb, ltb, ◌⊎◌, sym, refl, ap, ◌∙◌, subst, inl, inr, le_trans, le_of_eq, lt_of_lt_of_le, lt_of_le_of_lt, le_of_lt, mul-le-mul_right, mod-lt, mul_assoc, suc-mul, mul_comm, div-lt_iff_lt-mul, add-mul, eq-zero-or-pos, mul-le-mul, mul-le-mul_left, mul-lt-mul_of_pos_right, one-mul, div-add-mod', le-div_iff_mul-le, zero-mul, mul-one, div-le_self, mul_right_comm, arith, ltb→lt, nltb→le, pow_pos, pow_mono, pow-add}
use native.Mathlib.Nat.{mul-add-div_right}
use native.Mathlib.Nat.{zero-div}
use lib.Arith.{digits_div}
use Rattle.std.specs.Int.{from_bool}
use lib.Count.{count_leading_zeros, leading_top}
use Rattle.numbers.specs.Choice.{pick}
use Rattle.floating.specs.Working.{joint}
use Rattle.floating.proofs.Arithmetic.{pow-two, double-power, sub-mul}

-- ---- the count of leading zeros is how far a number moves up to have 64 digits
module _ (x : ℕ) (lo : 0 < x) (hi : x < 2 ^ 64) where
  pub zeros-few : count_leading_zeros 64 x < 64
  zeros-few = let t = leading_top 64 x lo hi in omega (arith, t.1)

  pub digits_low : 2 ^ 63 ≤ x * 2 ^ count_leading_zeros 64 x
  digits_low =
      let z = count_leading_zeros 64 x in
      let t = leading_top 64 x lo hi in
      let e : t.0 + z ≡ 63 = omega (arith, t.1) in
      le_trans (le_of_eq (sym (pow-two t.0 z 63 e))) (mul-le-mul_right (2 ^ z) t.2)

  pub digits-high : x * 2 ^ count_leading_zeros 64 x < 2 ^ 64
  digits-high =
      let z = count_leading_zeros 64 x in
      let t = leading_top 64 x lo hi in
      let e : suc t.0 + z ≡ 64 = omega (arith, t.1) in
      lt_of_lt_of_le (mul-lt-mul_of_pos_right t.3 (pow_pos z)) (le_of_eq (pow-two (suc t.0) z 64 e))

-- ---- p + 1 digits or p + 2, moved up to p + 2
module _ (p x z : ℕ) (lo : 2 ^ p ≤ x) (hi : x < 2 ^ (p + 2)) where
  pub short-by : z ≡ pick (ltb x (2 ^ (p + 1))) 1 0 → (z < 2) × (2 ^ (p + 1) ≤ x * 2 ^ z) × (x * 2 ^ z < 2 ^ (p + 2))
  short-by hz = subst (λ (y : ℕ). (y < 2) × (2 ^ (p + 1) ≤ x * 2 ^ y) × (x * 2 ^ y < 2 ^ (p + 2))) (sym hz)
      (go (ltb x (2 ^ (p + 1))) (ltb→lt x (2 ^ (p + 1))) (nltb→le x (2 ^ (p + 1))))
    where
      once : 2 ^ p * 2 ≡ 2 ^ (p + 1)
      once = pow-two p 1 (p + 1) refl

      twice : 2 ^ (p + 1) * 2 ≡ 2 ^ (p + 2)
      twice = pow-two (p + 1) 1 (p + 2) (omega arith)

      go : (t : Bool) → (T t → x < 2 ^ (p + 1)) → (T (not t) → 2 ^ (p + 1) ≤ x)
          → (pick t 1 0 < 2) × (2 ^ (p + 1) ≤ x * 2 ^ pick t 1 0) × (x * 2 ^ pick t 1 0 < 2 ^ (p + 2))
      go true less more = let h = less tt in let a = once in let b = twice in (omega arith, omega arith, omega arith)
      go false less more = let h = more tt in (omega arith, omega arith, omega arith)

-- x with itself added, or with nothing
module _ (x z y : ℕ) (small : z < 2) (hy : y ≡ pick (eqb z 1) x 0) where
  pub doubled-is : x + y ≡ x * 2 ^ z
  doubled-is = ap (λ (k : ℕ). x + k) hy ∙ go z small
    where
      go : (k : ℕ) → k < 2 → x + pick (eqb k 1) x 0 ≡ x * 2 ^ k
      go zero h = omega arith
      go (suc zero) h = omega arith
      go (suc (suc k)) h = absurd (omega arith)

  pub doubled-small : x < 2 ^ 31 → x + y < 2 ^ 32
  doubled-small h = subst (λ (k : ℕ). x + k < 2 ^ 32) (sym hy) (go (eqb z 1))
    where
      go : (t : Bool) → x + pick t x 0 < 2 ^ 32
      go true = omega arith
      go false = omega arith

-- all digits cut off
none_left : (c x d : ℕ) → x < 2 ^ c → c ≤ d → 0 ≡ x / 2 ^ d
none_left c x d h l =
    let g : x / 2 ^ d < 1 = (div-lt_iff_lt-mul (pow_pos d)).1 (lt_of_lt_of_le h (le_trans (pow_mono l) (le_of_eq (sym (one-mul (2 ^ d)))))) in
    omega arith

-- so of c digits no more than c have to be
pub cut_off : (c d e x : ℕ) → e ≡ min d c → x < 2 ^ c → x / 2 ^ e ≡ x / 2 ^ d
cut_off c d e x he h = go (eq-zero-or-pos (c - d))
  where
    go : (c - d ≡ 0) ⊎ (0 < c - d) → x / 2 ^ e ≡ x / 2 ^ d
    go (inl z) =
        let k : e ≡ c = omega arith in
        ap (λ (i : ℕ). x / 2 ^ i) k ∙ sym (none_left c x c h (le_of_eq refl)) ∙ none_left c x d h (omega arith)
    go (inr p) = let k : e ≡ d = omega arith in ap (λ (i : ℕ). x / 2 ^ i) k

pub cut_small : (x d r : ℕ) → r ≡ x / 2 ^ d → r ≤ x
cut_small x d r h = le_trans (le_of_eq h) (div-le_self x (2 ^ d))

-- ---- the whole part of a sum
sum-cut : (a b u d : ℕ) → a * u + b * u / 2 ^ d ≡ (a * 2 ^ d + b) * u / 2 ^ d
sum-cut a b u d =
    sym
    (ap (λ (z : ℕ). z / 2 ^ d) (add-mul (a * 2 ^ d) b u ∙ ap (λ (z : ℕ). z + b * u) (mul_right_comm a (2 ^ d) u))
    ∙ mul-add-div_right (pow_pos d) (a * u) (b * u))

-- ---- the whole part of a difference: one less than the one less what is cut of r - 1
less-cut : (q r P : ℕ) → 0 < P → 0 < r → r ≤ q * P → (q * P - r) / P ≡ q - 1 - (r - 1) / P
less-cut q r P p h k =
    let g = (r - 1) / P in
    let t = (r - 1) % P in
    let e : g * P + t ≡ r - 1 = div-add-mod' (r - 1) P in
    let tl : t < P = mod-lt (r - 1) p in
    let gl : g < q = (div-lt_iff_lt-mul p).1 lower in
    let s : (q - 1 - g) * P ≡ q * P - P - g * P = sub-mul (q - 1) g P ∙ ap (λ (z : ℕ). z - g * P) (sub-mul q 1 P ∙ ap (λ (z : ℕ). q * P - z) (one-mul P)) in
    let w : suc g * P ≤ q * P = mul-le-mul_right P gl in
    let w' : suc g * P ≡ g * P + P = suc-mul g P in
    let m : q * P - r ≡ (q - 1 - g) * P + (P - 1 - t) = omega arith in
    let v : P - 1 - t < P = omega arith in
    ap (λ (z : ℕ). z / P) m ∙ digits_div (q - 1 - g) v
  where
    lower : r - 1 < q * P
    lower = omega arith

difference-cut : (a b u d : ℕ) → 0 < b * u → b ≤ a * 2 ^ d → a * u - 1 - (b * u - 1) / 2 ^ d ≡ (a * 2 ^ d - b) * u / 2 ^ d
difference-cut a b u d h k =
    let e : (a * 2 ^ d - b) * u ≡ a * u * 2 ^ d - b * u = sub-mul (a * 2 ^ d) b u ∙ ap (λ (z : ℕ). z - b * u) (mul_right_comm a (2 ^ d) u) in
    let l : b * u ≤ a * u * 2 ^ d = le_trans (mul-le-mul_right u k) (le_of_eq (mul_right_comm a (2 ^ d) u)) in
    sym (ap (λ (z : ℕ). z / 2 ^ d) e ∙ less-cut (a * u) (b * u) (2 ^ d) (pow_pos d) h l)

-- what is left of a number that was no larger, cut, is no larger
pub cut-room : (n x r y d : ℕ) → n < 2 → r ≡ x / 2 ^ d → n + x ≤ y * 2 ^ d → n + r ≤ y
cut-room n x r y d l hr h = go (eq-zero-or-pos n)
  where
    go : (n ≡ 0) ⊎ (0 < n) → n + r ≤ y
    go (inl z) =
        let a : x ≤ y * 2 ^ d = omega arith in
        let s : (y + 1) * 2 ^ d ≡ y * 2 ^ d + 2 ^ d = add-mul y 1 (2 ^ d) ∙ ap (λ (z : ℕ). y * 2 ^ d + z) (one-mul (2 ^ d)) in
        let p = pow_pos d in
        let c : x < (y + 1) * 2 ^ d = omega arith in
        let b : x / 2 ^ d < y + 1 = (div-lt_iff_lt-mul (pow_pos d)).1 c in
        omega arith
    go (inr p) =
        let a : x < y * 2 ^ d = omega arith in
        let b : x / 2 ^ d < y = (div-lt_iff_lt-mul (pow_pos d)).1 a in
        omega arith

-- a common factor keeps the order
pub times-unit : (u a b d : ℕ) → b ≤ a * 2 ^ d → b * u ≤ a * u * 2 ^ d
times-unit u a b d h = le_trans (mul-le-mul_right u h) (le_of_eq (mul_right_comm a (2 ^ d) u))

-- a bool as a number
pub one-bit : (t : Bool) → from_bool t < 2
one-bit true = omega arith
one-bit false = omega arith

-- ---- the code's one line for both: in a difference, with o 1, what is cut off of b leaves one unit less
module _ (u o a b d r : ℕ) (hr : r ≡ (b * u - o) / 2 ^ d) where
  pub minus-cut : o ≡ 1 → 0 < b * u → b ≤ a * 2 ^ d → a * u - (o + r) ≡ (a * 2 ^ d - b) * u / 2 ^ d
  minus-cut e some le =
      let q : r ≡ (b * u - 1) / 2 ^ d = hr ∙ ap (λ (z : ℕ). (b * u - z) / 2 ^ d) e in
      let h : a * u - (o + r) ≡ a * u - 1 - (b * u - 1) / 2 ^ d = omega arith in
      h ∙ difference-cut a b u d some le

  pub plus-cut : o ≡ 0 → a * u + (o + r) ≡ (a * 2 ^ d + b) * u / 2 ^ d
  plus-cut z =
      let w : b * u - o ≡ b * u = omega arith in
      let q : r ≡ b * u / 2 ^ d = hr ∙ ap (λ (y : ℕ). y / 2 ^ d) w in
      let h : a * u + (o + r) ≡ a * u + b * u / 2 ^ d = omega arith in
      h ∙ sum-cut a b u d

-- ---- the product of two significands of p digits
pub product-low : (p a b : ℕ) → 2 ^ (p - 1) ≤ a → 2 ^ (p - 1) ≤ b → 2 ^ (p - 1) * 2 ^ (p - 1) ≤ a * b
product-low p a b h k = mul-le-mul h k

pub product_high : (p a b : ℕ) → a < 2 ^ p → b < 2 ^ p → a * b < 2 ^ p * 2 ^ p
product_high p a b h k = lt_of_le_of_lt (mul-le-mul_left a (le_of_lt k)) (mul-lt-mul_of_pos_right h (pow_pos p))

-- ---- Two significands of p digits, the first moved up d places: their sum, and what the second leaves of the first, have more than p digits in units of
-- 2 ^ -(p + 2) of the first's last.
module _ (p a b d : ℕ) (P : 0 < p) (alo : 2 ^ (p - 1) ≤ a) (bhi : b < 2 ^ p) where
  -- a quarter of one is enough
  quarter : (y : ℕ) → 2 ^ d ≤ y * 4 → 2 ^ p * 2 ^ d ≤ y * 2 ^ (p + 2)
  quarter y h =
      le_trans (mul-le-mul_left (2 ^ p) h)
      (le_of_eq (sym (ap (λ (z : ℕ). y * z) (pow-add 2 p 2 ∙ mul_comm (2 ^ p) 4) ∙ sym (mul_assoc y 4 (2 ^ p)) ∙ mul_comm (y * 4) (2 ^ p))))

  one : 1 ≤ 2 ^ (p - 1)
  one = pow_pos (p - 1)

  difference-long : b < a * 2 ^ d → 2 ^ d ≤ (a * 2 ^ d - b) * 4
  difference-long h = go (eq-zero-or-pos (d - 1))
    where
      go : (d - 1 ≡ 0) ⊎ (0 < d - 1) → 2 ^ d ≤ (a * 2 ^ d - b) * 4
      go (inl z) =
          let few : d ≤ 2 = omega arith in
          let four : 2 ^ d ≤ 4 = pow_mono {i = d} {j = 2} few in
          omega arith
      go (inr z) =
          let r = 2 ^ (d - 2) in
          let e : d - 2 + 2 ≡ d = omega arith in
          let power : 2 ^ d ≡ r * 4 = sym (pow-two (d - 2) 2 d e) in
          let first : 2 ^ (p - 1) * 2 ^ d ≤ a * 2 ^ d = mul-le-mul_right (2 ^ d) alo in
          let t : 2 ^ (p - 1) * 2 ^ d ≡ 2 ^ (p - 1) * r * 4 = ap (λ (y : ℕ). 2 ^ (p - 1) * y) power ∙ sym (mul_assoc (2 ^ (p - 1)) r 4) in
          let wide : 2 ^ (p - 1) ≤ 2 ^ (p - 1) * r = le_trans (le_of_eq (sym (mul-one (2 ^ (p - 1))))) (mul-le-mul_left (2 ^ (p - 1)) (pow_pos (d - 2))) in
          let high : r ≤ 2 ^ (p - 1) * r = le_trans (le_of_eq (sym (one-mul r))) (mul-le-mul_right r one) in
          let twice = double-power p P in
          omega arith

  joint-long : (t : Bool) → 0 < pick t (a * 2 ^ d - b) (a * 2 ^ d + b) → 2 ^ p * 2 ^ d ≤ pick t (a * 2 ^ d - b) (a * 2 ^ d + b) * 2 ^ (p + 2)
  joint-long true h = quarter (a * 2 ^ d - b) (difference-long (omega arith))
  joint-long false h =
      let at_least : 1 ≤ a = le_trans one alo in
      let q : 1 * 2 ^ d ≤ a * 2 ^ d = mul-le-mul_right (2 ^ d) at_least in
      let e : 1 * 2 ^ d ≡ 2 ^ d = one-mul (2 ^ d) in
      quarter (a * 2 ^ d + b) (omega arith)

  module _ (minus : Bool) (x : ℕ) (hx : x ≡ joint minus (a * 2 ^ d) b * 2 ^ (p + 2) / 2 ^ d) where
    reached : 0 < joint minus (a * 2 ^ d) b → 2 ^ p ≤ x
    reached h = le_trans ((le-div_iff_mul-le (pow_pos d)).1 (joint-long minus h)) (le_of_eq (sym hx))

    -- the whole part is 0 only of nothing
    pub none-joint : x ≡ 0 → joint minus (a * 2 ^ d) b ≡ 0
    none-joint z = go (eq-zero-or-pos (joint minus (a * 2 ^ d) b))
      where
        go : (joint minus (a * 2 ^ d) b ≡ 0) ⊎ (0 < joint minus (a * 2 ^ d) b) → joint minus (a * 2 ^ d) b ≡ 0
        go (inl e) = e
        go (inr h) = let l = reached h in let s = pow_pos p in absurd (omega arith)

    pub some-long : (x ≡ 0 → ⊥) → 2 ^ p ≤ x
    some-long n = go (eq-zero-or-pos (joint minus (a * 2 ^ d) b))
      where
        nothing : (y : ℕ) → y ≡ 0 → y * 2 ^ (p + 2) / 2 ^ d ≡ 0
        nothing y e = ap (λ (z : ℕ). z * 2 ^ (p + 2) / 2 ^ d) e ∙ ap (λ (z : ℕ). z / 2 ^ d) (zero-mul (2 ^ (p + 2))) ∙ zero-div (2 ^ d)

        go : (joint minus (a * 2 ^ d) b ≡ 0) ⊎ (0 < joint minus (a * 2 ^ d) b) → 2 ^ p ≤ x
        go (inl e) = absurd (n (hx ∙ nothing (joint minus (a * 2 ^ d) b) e))
        go (inr h) = reached h
