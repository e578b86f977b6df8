-- Sets of positions: a number whose bit k says that k is in it. Assumes nothing.
use mathlib.Core.Path.{◌≡◌, refl, sym, ap, ap₂, ◌∙◌}
use mathlib.Core.Bool.{Bool, beq, true, false, not, ◌&&◌, ◌||◌, not-not}
use Prim.Native.Nat.{ℕ, suc, ◌+◌, ◌-◌, ◌*◌, ◌/◌, ◌%◌, ◌^◌, ◌<◌}
use native.Mathlib.Nat.{mul-mod_left, pow-suc, div-eq_of_lt, zero-div}
use native.Mathlib.Omega.{arith}
use native.Mathlib.Decide.{ℕ_discrete, dec_lt}
use borrow.Author.Tests.{eq-eqb, ne_eqb, eqb-true, lt-ltb, le-ltb}
use lib.Dec.{eqb, ltb}
use lib.Bits.{bit_and, bit_xor}
use lib.Pow.{shl-shr, pow-add, pow-lt, pow_pos}
use Rattle.numbers.specs.Choice.{pick}
use Rattle.numbers.specs.Bits.{bit}
use Rattle.numbers.proofs.BitLaws.{digit-complement, bit-above}
use Rattle.numbers.proofs.Sets.{same_bits, bit-or, bit-and, bit-xor, bit-none}
use Rattle.order.specs.SetsWorking.{joined, parted, apart}

-- a set of one position
pow-same : (e : ℕ) → 2 ^ e / 2 ^ e % 2 ≡ 1
pow-same e = ap (λ (n : ℕ). n / 2 ^ e % 2) (sym (one-mul (2 ^ e))) ∙ ap (λ (n : ℕ). n % 2) (shl-shr 1 e)
  where
    one-mul : (n : ℕ) → 1 * n ≡ n
    one-mul n = omega arith

pow_low : (e k : ℕ) → k < e → 2 ^ e / 2 ^ k % 2 ≡ 0
pow_low e k h =
    ap (λ (n : ℕ). 2 ^ n / 2 ^ k % 2) e-is
    ∙ ap (λ (n : ℕ). n / 2 ^ k % 2) (pow-add 2 (suc (e - suc k)) k)
    ∙ ap (λ (n : ℕ). n % 2) (shl-shr (2 ^ suc (e - suc k)) k)
    ∙ ap (λ (n : ℕ). n % 2) (pow-suc 2 (e - suc k))
    ∙ mul-mod_left (2 ^ (e - suc k)) 2
  where
    e-is : e ≡ suc (e - suc k) + k
    e-is = omega arith

pub bit-one : (e k : ℕ) → bit (2 ^ e) k ≡ eqb k e
bit-one e k = go (dec_lt k e) (dec_lt e k)
  where
    go : Dec (k < e) → Dec (e < k) → bit (2 ^ e) k ≡ eqb k e
    go (yes h) d = ap (λ (n : ℕ). eqb n 1) (pow_low e k h) ∙ sym (ne_eqb k e (λ s. omega arith))
    go (no _) (yes h) = ap (λ (n : ℕ). eqb (n % 2) 1) (div-eq_of_lt (pow-lt h)) ∙ sym (ne_eqb k e (λ s. omega arith))
    go (no a) (no b) =
        let s : k ≡ e = omega arith in
        ap (λ (n : ℕ). eqb (2 ^ e / 2 ^ n % 2) 1) s ∙ ap (λ (n : ℕ). eqb n 1) (pow-same e) ∙ sym (eq-eqb k e s)

pub or_swap : (a b : Bool) → (a || b) ≡ (b || a)
or_swap true true = refl
or_swap true false = refl
or_swap false true = refl
or_swap false false = refl

pub bit-joined : (s k j : ℕ) → bit (joined s k) j ≡ (eqb j k || bit s j)
bit-joined s k j = bit-or s (2 ^ k) j ∙ or_swap (bit s j) (bit (2 ^ k) j) ∙ ap (λ (t : Bool). t || bit s j) (bit-one k j)

abbrev joined_if : Bool → ℕ → ℕ → ℕ
joined_if t s k = pick t (joined s k) s

bit-joined-if : (t : Bool) (s k j : ℕ) → bit (joined_if t s k) j ≡ (t && eqb j k || bit s j)
bit-joined-if true s k j = bit-joined s k j
bit-joined-if false s k j = refl

-- the positions below n
pub bit_below : (n k : ℕ) → bit (2 ^ n - 1) k ≡ ltb k n
bit_below n k = go (dec_lt k n)
  where
    small : 0 < 2 ^ n
    small = pow_pos n

    none-less : (m : ℕ) → m ≡ m - 0
    none-less m = omega arith

    go : Dec (k < n) → bit (2 ^ n - 1) k ≡ ltb k n
    go (yes h) =
        ap (λ (m : ℕ). bit m k) (none-less (2 ^ n - 1))
        ∙ ap (λ (d : ℕ). eqb d 1) (digit-complement n 0 k small h ∙ ap (λ (d : ℕ). 1 - d % 2) (zero-div (2 ^ k)))
        ∙ sym (lt-ltb k n h)
    go (no h) = bit-above (2 ^ n - 1) n k (let s = small in omega arith) (omega arith) ∙ sym (le-ltb k n (omega arith))

-- a position leaves a set
pub bit-parted : (s k j : ℕ) → not (bit (parted s k) j) ≡ (eqb j k || not (bit s j))
bit-parted s k j =
    ap not (bit-xor (joined s k) (2 ^ k) j ∙ ap₂ (λ (t u : Bool). not (beq t u)) (bit-joined s k j) (bit-one k j))
    ∙ go (eqb j k) (bit s j)
  where
    go : (t b : Bool) → not (not (beq (t || b) t)) ≡ (t || not b)
    go true true = refl
    go true false = refl
    go false true = refl
    go false false = refl

-- a position is flipped in a set
pub bit-flipped : (s k j : ℕ) → bit (bit_xor s (2 ^ k)) j ≡ not (beq (bit s j) (eqb j k))
bit-flipped s k j = bit-xor s (2 ^ k) j ∙ ap (λ (t : Bool). not (beq (bit s j) t)) (bit-one k j)

-- one that is in it leaves it
pub flipped-out : (s k : ℕ) → bit s k ≡ true → (j : ℕ) → not (bit (bit_xor s (2 ^ k)) j) ≡ (eqb j k || not (bit s j))
flipped-out s k e j = ap not (bit-flipped s k j) ∙ at (ℕ_discrete j k)
  where
    other : (b : Bool) → not (not (beq b false)) ≡ not b
    other true = refl
    other false = refl

    at : Dec (j ≡ k) → not (not (beq (bit s j) (eqb j k))) ≡ (eqb j k || not (bit s j))
    at (yes z) =
        ap₂ (λ (b t : Bool). not (not (beq b t))) (ap (bit s) z ∙ e) (eq-eqb j k z)
        ∙ sym (ap (λ (t : Bool). t || not (bit s j)) (eq-eqb j k z))
    at (no z) =
        ap (λ (t : Bool). not (not (beq (bit s j) t))) (ne_eqb j k z)
        ∙ other (bit s j)
        ∙ sym (ap (λ (t : Bool). t || not (bit s j)) (ne_eqb j k z))

-- ---- sets without a common position
pub apart→ : (a b : ℕ) → apart a b ≡ true → (k : ℕ) → bit a k ≡ true → not (bit b k) ≡ true
apart→ a b e k h =
    ap not (sym (ap (λ (t : Bool). t && bit b k) h) ∙ sym (bit-and a b k) ∙ ap (λ (n : ℕ). bit n k) (eqb-true (bit_and a b) 0 e) ∙ bit-none k)

pub →apart : (a b : ℕ) → ((k : ℕ) → bit a k ≡ true → not (bit b k) ≡ true) → apart a b ≡ true
→apart a b f = eq-eqb (bit_and a b) 0 (same_bits (bit_and a b) 0 (λ k. bit-and a b k ∙ go k (bit a k) (bit b k) refl refl ∙ sym (bit-none k)))
  where
    go : (k : ℕ) (s t : Bool) → bit a k ≡ s → bit b k ≡ t → (s && t) ≡ false
    go k false t e g = refl
    go k true t e g = sym (not-not t) ∙ ap not (ap not (sym g) ∙ f k e)

-- ---- a set that a loop builds: after k turns it has the positions below k that pass the test
pub Built : (ℕ → Bool) → ℕ → ℕ → Type 0
Built f s k = (j : ℕ) → bit s j ≡ (ltb j k && f j)

pub built-none : (f : ℕ → Bool) → Built f 0 0
unfolding Built
built-none f j = bit-none j ∙ ap (λ (t : Bool). t && f j) (sym (le-ltb j 0 (omega arith)))

pub built-at : (f : ℕ → Bool) (s k : ℕ) → Built f s k → (j : ℕ) → bit s j ≡ (ltb j k && f j)
unfolding Built
built-at f s k b = b

built-more : (f : ℕ → Bool) (s k : ℕ) (t : Bool) → Built f s k → t ≡ f k → Built f (joined_if t s k) (k + 1)
unfolding Built
built-more f s k t b e j = bit-joined-if t s k j ∙ ap (λ (u : Bool). t && eqb j k || u) (b j) ∙ go (dec_lt j k) (dec_lt k j)
  where
    aside : (u v : Bool) → (u && false || v) ≡ v
    aside true v = refl
    aside false v = refl

    here : (u : Bool) → (u && true || false) ≡ u
    here true = refl
    here false = refl

    go : Dec (j < k) → Dec (k < j) → (t && eqb j k || (ltb j k && f j)) ≡ (ltb j (k + 1) && f j)
    go (yes h) d =
        ap₂ (λ (x y : Bool). t && x || (y && f j)) (ne_eqb j k (λ s. omega arith)) (lt-ltb j k h)
        ∙ aside t (f j)
        ∙ ap (λ (y : Bool). y && f j) (sym (lt-ltb j (k + 1) (omega arith)))
    go (no _) (yes h) =
        ap₂ (λ (x y : Bool). t && x || (y && f j)) (ne_eqb j k (λ s. omega arith)) (le-ltb j k (omega arith))
        ∙ aside t false
        ∙ ap (λ (y : Bool). y && f j) (sym (le-ltb j (k + 1) (omega arith)))
    go (no a) (no c) =
        let s : j ≡ k = omega arith in
        ap₂ (λ (x y : Bool). t && x || (y && f j)) (eq-eqb j k s) (le-ltb j k (omega arith))
        ∙ here t
        ∙ e ∙ ap f (sym s)
        ∙ ap (λ (y : Bool). y && f j) (sym (lt-ltb j (k + 1) (omega arith)))

-- a set that has grown by the same rule
pub built-grown : (f : ℕ → Bool) (s r k : ℕ) (t : Bool) → Built f s k → t ≡ f k → ((j : ℕ) → bit r j ≡ (t && eqb j k || bit s j)) → Built f r (k + 1)
unfolding Built
built-grown f s r k t b e g j = g j ∙ sym (bit-joined-if t s k j) ∙ built-more f s k t b e j
