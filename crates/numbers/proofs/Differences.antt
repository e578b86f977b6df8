-- A whole number as the difference of two natural numbers, sub_ℕ p n (which is p - n): what the definitions of specs/Signed.antt are of it.
use mathlib.Core.Path.{◌≡◌, refl, sym, ◌∙◌, ap}
use mathlib.Core.Bool.{Bool, true, false}
use Prim.Native.Nat.{ℕ, zero, suc, ◌+◌, ◌-◌, ◌*◌, ◌/◌, ◌%◌, ◌^◌, ◌≤◌, ◌<◌}
use native.Mathlib.Omega.{arith}
use native.Mathlib.Nat.{add-mul, mul-add}
use lib.Dec.{ltb, eqb}
use lib.IntN.{ℤ, pos, negsuc, neg_ℤ, sub_ℕ, ◌+ℤ◌, ◌-ℤ◌, ◌*ℤ◌}
use borrow.Author.Tests.{ltb-true, ltb-false, lt-ltb, le-ltb, lt-leb, le-leb, eq-eqb, ne_eqb}
use Rattle.numbers.specs.Signed.{signed, low32, overflows, negative, is_zero}

-- ---- the two forms of a difference
at_least : (p n : ℕ) → n ≤ p → sub_ℕ p n ≡ pos (p - n)
at_least p n h = rw (le-ltb p n h)

below : (p n : ℕ) → p < n → sub_ℕ p n ≡ negsuc (n - suc p)
below p n h = rw (lt-ltb p n h)

data Form (p n : ℕ) : Type 0 where
  natural : (k : ℕ) → p ≡ n + k → sub_ℕ p n ≡ pos k → Form p n
  minus : (k : ℕ) → n ≡ p + suc k → sub_ℕ p n ≡ negsuc k → Form p n

form : (p n : ℕ) → Form p n
form p n = by_test (ltb p n) refl
  where
    by_test : (t : Bool) → ltb p n ≡ t → Form p n
    by_test true e = let h = ltb-true p n e in minus (n - suc p) (omega arith) (below p n h)
    by_test false e = let h = ltb-false p n e in natural (p - n) (omega arith) (at_least p n h)

pub sub-pos : (p n k : ℕ) → p ≡ n + k → sub_ℕ p n ≡ pos k
sub-pos p n k e = let h : p - n ≡ k = omega arith in at_least p n (omega arith) ∙ ap pos h

pub sub-neg : (p n k : ℕ) → n ≡ p + suc k → sub_ℕ p n ≡ negsuc k
sub-neg p n k e = let h : n - suc p ≡ k = omega arith in below p n (omega arith) ∙ ap negsuc h

-- equal differences
same_as : (p n q m : ℕ) → Form p n → p + m ≡ q + n → sub_ℕ p n ≡ sub_ℕ q m
same_as p n q m (natural k e f) h = f ∙ sym (sub-pos q m k (omega arith))
same_as p n q m (minus k e f) h = f ∙ sym (sub-neg q m k (omega arith))

pub same : (p n q m : ℕ) → p + m ≡ q + n → sub_ℕ p n ≡ sub_ℕ q m
same p n q m h = same_as p n q m (form p n) h

sub-minus : (p n k : ℕ) → n ≡ p + k → sub_ℕ p n ≡ neg_ℤ (pos k)
sub-minus p n zero e = sub-pos p n 0 (omega arith)
sub-minus p n (suc k) e = sub-neg p n k e

-- ---- sum, difference and product
negated : (p n : ℕ) → Form p n → neg_ℤ (sub_ℕ p n) ≡ sub_ℕ n p
negated p n (natural k e f) = ap neg_ℤ f ∙ sym (sub-minus n p k e)
negated p n (minus k e f) = ap neg_ℤ f ∙ sym (sub-pos n p (suc k) e)

crossed : (n k m l : ℕ) → (n + k) * (m + l) + n * m ≡ (n + k) * m + n * (m + l) + k * l
crossed n k m l = simp (add-mul, mul-add) (omega arith)

module _ (p n q m : ℕ) where
  joined : (op : ℤ → ℤ → ℤ) {x y z : ℤ} → sub_ℕ p n ≡ x → sub_ℕ q m ≡ y → z ≡ op x y → op (sub_ℕ p n) (sub_ℕ q m) ≡ z
  joined op e f g = ap (λ (i : ℤ). op i (sub_ℕ q m)) e ∙ ap (op _) f ∙ sym g

  added : Form p n → Form q m → sub_ℕ p n +ℤ sub_ℕ q m ≡ sub_ℕ (p + q) (n + m)
  added (natural k e f) (natural l g h) = joined ◌+ℤ◌ f h (sub-pos (p + q) (n + m) (k + l) (omega arith))
  added (natural k e f) (minus l g h) = joined ◌+ℤ◌ f h (same (p + q) (n + m) k (suc l) (omega arith))
  added (minus k e f) (natural l g h) = joined ◌+ℤ◌ f h (same (p + q) (n + m) l (suc k) (omega arith))
  added (minus k e f) (minus l g h) = joined ◌+ℤ◌ f h (sub-neg (p + q) (n + m) (suc (k + l)) (omega arith))

  pub sum-of : sub_ℕ p n +ℤ sub_ℕ q m ≡ sub_ℕ (p + q) (n + m)
  sum-of = added (form p n) (form q m)

  multiplied : Form p n → Form q m → sub_ℕ p n *ℤ sub_ℕ q m ≡ sub_ℕ (p * q + n * m) (p * m + n * q)
  multiplied (natural k e f) (natural l g h) =
      joined ◌*ℤ◌ f h (sub-pos (p * q + n * m) (p * m + n * q) (k * l) (rw (e, g) (omega (arith, crossed n k m l))))
  multiplied (natural k e f) (minus l g h) =
      joined ◌*ℤ◌ f h (sub-minus (p * q + n * m) (p * m + n * q) (k * suc l) (rw (e, g) (omega (arith, crossed n k q (suc l)))))
  multiplied (minus k e f) (natural l g h) =
      joined ◌*ℤ◌ f h (sub-minus (p * q + n * m) (p * m + n * q) (suc k * l) (rw (e, g) (omega (arith, crossed p (suc k) m l))))
  multiplied (minus k e f) (minus l g h) =
      joined ◌*ℤ◌ f h (sub-pos (p * q + n * m) (p * m + n * q) (suc k * suc l) (rw (e, g) (omega (arith, crossed p (suc k) q (suc l)))))

  pub product-of : sub_ℕ p n *ℤ sub_ℕ q m ≡ sub_ℕ (p * q + n * m) (p * m + n * q)
  product-of = multiplied (form p n) (form q m)

pub difference-of : (p n q m : ℕ) → sub_ℕ p n -ℤ sub_ℕ q m ≡ sub_ℕ (p + m) (n + q)
difference-of p n q m = ap (λ (i : ℤ). sub_ℕ p n +ℤ i) (negated q m (form q m)) ∙ sum-of p n m q

-- ---- its low 32 bits, its range, its sign
low-bits : (p n r : ℕ) → Form p n → r < 2 ^ 32 → (r + n) % 2 ^ 32 ≡ p % 2 ^ 32 → low32 (sub_ℕ p n) ≡ r
unfolding low32
low-bits p n r (natural k e f) h g = let i : k % 2 ^ 32 ≡ r = omega arith in ap low32 f ∙ i
low-bits p n r (minus k e f) h g = let i : 2 ^ 32 - 1 - k % 2 ^ 32 ≡ r = omega arith in ap low32 f ∙ i

pub low32-of : (p n r : ℕ) → r < 2 ^ 32 → (r + n) % 2 ^ 32 ≡ p % 2 ^ 32 → low32 (sub_ℕ p n) ≡ r
low32-of p n r h g = low-bits p n r (form p n) h g

negative-by : (p n : ℕ) → Form p n → negative (sub_ℕ p n) ≡ ltb p n
unfolding negative
negative-by p n (natural k e f) = ap negative f ∙ sym (le-ltb p n (omega arith))
negative-by p n (minus k e f) = ap negative f ∙ sym (lt-ltb p n (omega arith))

pub negative_of : (p n : ℕ) → negative (sub_ℕ p n) ≡ ltb p n
negative_of p n = negative-by p n (form p n)

zero-by : (p n : ℕ) → Form p n → is_zero (sub_ℕ p n) ≡ eqb p n
unfolding is_zero
zero-by p n (natural zero e f) = ap is_zero f ∙ sym (eq-eqb p n (omega arith))
zero-by p n (natural (suc k) e f) = ap is_zero f ∙ ne_eqb (suc k) 0 (omega arith) ∙ sym (ne_eqb p n (omega arith))
zero-by p n (minus k e f) = ap is_zero f ∙ sym (ne_eqb p n (omega arith))

pub zero_of : (p n : ℕ) → is_zero (sub_ℕ p n) ≡ eqb p n
zero_of p n = zero-by p n (form p n)

-- where a difference lies, and whether that is overflow
pub data Range (p n : ℕ) : Bool → Type 0 where
  under : p + 2 ^ 31 < n → Range p n true
  over : n + 2 ^ 31 ≤ p → Range p n true
  inside : n ≤ p + 2 ^ 31 → p < n + 2 ^ 31 → Range p n false

judged : (p n : ℕ) (t : Bool) → Form p n → Range p n t → overflows (sub_ℕ p n) ≡ t
unfolding overflows
judged p n true (natural k e f) (under h) = absurd (omega arith)
judged p n true (natural k e f) (over h) = ap overflows f ∙ le-leb (2 ^ 31) k (omega arith)
judged p n false (natural k e f) (inside h g) = ap overflows f ∙ lt-leb (2 ^ 31) k (omega arith)
judged p n true (minus k e f) (under h) = let i : 2 ^ 31 ≤ k = omega arith in ap overflows f ∙ rw (le-leb (2 ^ 31) k i)
judged p n true (minus k e f) (over h) = absurd (omega arith)
judged p n false (minus k e f) (inside h g) = let i : k < 2 ^ 31 = omega arith in ap overflows f ∙ rw (lt-leb (2 ^ 31) k i)

pub overflows-of : (p n : ℕ) (t : Bool) → Range p n t → overflows (sub_ℕ p n) ≡ t
overflows-of p n t r = judged p n t (form p n) r

-- ---- a longword: x, with its top bit turned, less 2^31
signed_by : (x : ℕ) → x < 2 ^ 32 → (t : Bool) → ltb x (2 ^ 31) ≡ t → signed x ≡ sub_ℕ ((x + 2 ^ 31) % 2 ^ 32) (2 ^ 31)
unfolding signed
signed_by x h true e = let i = ltb-true x (2 ^ 31) e in rw e (sym (sub-pos ((x + 2 ^ 31) % 2 ^ 32) (2 ^ 31) x (omega arith)))
signed_by x h false e =
    let i = ltb-false x (2 ^ 31) e in rw e (same x (2 ^ 32) ((x + 2 ^ 31) % 2 ^ 32) (2 ^ 31) (omega arith))

pub signed_of : (x : ℕ) → x < 2 ^ 32 → signed x ≡ sub_ℕ ((x + 2 ^ 31) % 2 ^ 32) (2 ^ 31)
signed_of x h = signed_by x h (ltb x (2 ^ 31)) refl

-- and: x, less 2^32 where its top bit is set
pub signed_top : (x : ℕ) → x < 2 ^ 32 → signed x ≡ sub_ℕ x (x / 2 ^ 31 * 2 ^ 32)
signed_top x h = signed_of x h ∙ same ((x + 2 ^ 31) % 2 ^ 32) (2 ^ 31) x (x / 2 ^ 31 * 2 ^ 32) (omega arith)
