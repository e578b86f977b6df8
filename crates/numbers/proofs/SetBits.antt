-- A walk over the ones of a set of 64 bits, rising: the lowest one is taken and turned to zero, until none is left. Assumes nothing.
use mathlib.Core.Path.{◌≡◌, refl, sym, ap, ap₂, ◌∙◌, subst}
use mathlib.Core.Bool.{Bool, true, false, not, ◌&&◌, beq}
use mathlib.Core.Logic.{◌⊎◌, inl, inr, ⊎_elim}
use Prim.Native.Nat.{ℕ, zero, suc, ◌+◌, ◌-◌, ◌*◌, ◌/◌, ◌%◌, ◌^◌, ◌≤◌, ◌<◌, min}
use native.Mathlib.Nat.{pow-suc, one-mul, mod-lt}
use native.Mathlib.Omega.{arith}
use lib.Bits.{bit_and, and_step, and_self}
use lib.Count.{count_trailing_zeros, under, trailing_of_zero}
use lib.Dec.{ltb}
use lib.Pow.{pow_pos}
use borrow.Author.Tests.{lt-ltb, le-ltb}
use Rattle.numbers.specs.Bits.{bit, without_bit, with_bit}
use Rattle.numbers.specs.Working.{low_bits, complement, lowest_one, chosen, OnesBelow, of_ones}
use Rattle.numbers.specs.Choice.{pick}
use Rattle.numbers.specs.Rising.{rising}
use Rattle.numbers.proofs.BitLaws.{digit, digit-zero, digit-suc, bit_is, bit-above, bit_below, bit-complement, bit-replaced, bit_kept, dec_eq}
use Rattle.numbers.proofs.Rising.{starts, settles, alike, grows, carries}
use Rattle.numbers.proofs.Sets.{bit-none}
use Rattle.numbers.proofs.Tests.{true-not-false, below_or_not, pick_true, pick-false}

-- ---- the lowest one

-- its digit is a one, those below it are zeros, and x & (x - 1) is x without it
pub record Lowest (x i : ℕ) : Type 0 where
  pub one : digit x i ≡ 1
  pub zeros : (j : ℕ) → j < i → digit x j ≡ 0
  pub removed : bit_and x (x - 1) ≡ x - 2 ^ i

module _ (x : ℕ) (h : 0 < x) where
  -- an odd number's is bit 0
  odd : x % 2 ≡ 1 → Lowest x 0
  odd e = record { one = digit-zero x ∙ e; zeros = λ j g. absurd (omega arith); removed = less }
    where
      less : bit_and x (x - 1) ≡ x - 1
      less =
          let a : (x - 1) / 2 ≡ x / 2 = omega arith in
          let b : min (x % 2) ((x - 1) % 2) ≡ 0 = omega arith in
          and_step x (x - 1)
          ∙ ap₂ (λ (m d : ℕ). bit_and (x / 2) m * 2 + d) a b
          ∙ ap (λ (m : ℕ). m * 2 + 0) (and_self (x / 2))
          ∙ omega arith

  -- an even number's is that of its half, one place up
  even : (t : ℕ) → x % 2 ≡ 0 → Lowest (x / 2) t → Lowest x (suc t)
  even t e r = record { one = sym (digit-suc x t) ∙ r.one; zeros = below; removed = less }
    where
      below : (j : ℕ) → j < suc t → digit x j ≡ 0
      below zero g = digit-zero x ∙ e
      below (suc j) g = sym (digit-suc x j) ∙ r.zeros j (omega arith)

      less : bit_and x (x - 1) ≡ x - 2 ^ suc t
      less =
          let a : (x - 1) / 2 ≡ x / 2 - 1 = omega arith in
          let b : min (x % 2) ((x - 1) % 2) ≡ 0 = omega arith in
          let p : 2 ^ suc t ≡ 2 ^ t * 2 = pow-suc 2 t in
          and_step x (x - 1)
          ∙ ap₂ (λ (m d : ℕ). bit_and (x / 2) m * 2 + d) a b
          ∙ ap (λ (m : ℕ). m * 2 + 0) r.removed
          ∙ omega arith

-- of a number of k digits that is not zero
pub lowest : (k x : ℕ) → 0 < x → x < 2 ^ k → Lowest x (count_trailing_zeros k x)
unfolding count_trailing_zeros
lowest zero x h small = absurd (omega arith)
lowest (suc k) x h small =
    let g : x < 2 ^ k * 2 = subst (λ (m : ℕ). x < m) (pow-suc 2 k) small in
    at (x % 2) refl (λ (e : x % 2 ≡ 0). lowest k (x / 2) (omega arith) (omega arith))
  where
    at : (d : ℕ) → x % 2 ≡ d → (x % 2 ≡ 0 → Lowest (x / 2) (count_trailing_zeros k (x / 2))) → Lowest x (under d (count_trailing_zeros k (x / 2)))
    at zero e half = even x h (count_trailing_zeros k (x / 2)) e (half e)
    at (suc d) e half = odd x h (omega arith)

module _ (x i : ℕ) (h : Lowest x i) where
  without : without_bit x i ≡ x - 2 ^ i
  without = ap (λ (d : ℕ). x - d * 2 ^ i) h.one ∙ ap (λ (p : ℕ). x - p) (one-mul (2 ^ i))

  pub taken : bit_and x (x - 1) ≡ without_bit x i
  taken = h.removed ∙ sym without

  -- the set gets smaller
  less : 0 < x → without_bit x i < x
  less g = let e = without in let p = pow_pos i in omega arith

  -- the lowest one is below any bound on the ones
  inside : (n : ℕ) → x < 2 ^ n → i < n
  inside n small =
      ⊎_elim (λ (g : i < n). g) (λ (g : n ≤ i). absurd (true-not-false (sym (bit-above x n i small g) ∙ bit_is x i 1 h.one))) (below_or_not i n)

-- of 64 bits that are not all zero
module _ (x : ℕ) (h : 0 < x) (small : x < 2 ^ 64) where
  pub lowest-below : lowest_one x < 64
  lowest-below = inside x (lowest_one x) (lowest 64 x h small) 64 small

  pub lowest-smaller : without_bit x (lowest_one x) < x
  lowest-smaller = less x (lowest_one x) (lowest 64 x h small) h

-- a bit turned to zero, and the others
module _ (x i : ℕ) where
  is : with_bit x i 0 ≡ without_bit x i
  is = omega arith

  gone : bit (without_bit x i) i ≡ false
  gone = ap (λ (z : ℕ). bit z i) (sym is) ∙ bit-replaced x i 0 (omega arith)

  kept : (j : ℕ) → (j ≡ i → ⊥) → bit (without_bit x i) j ≡ bit x j
  kept j e = ap (λ (z : ℕ). bit z j) (sym is) ∙ bit_kept x i 0 (omega arith) j e

-- ---- the numbers below n that are chosen

module _ (n : ℕ) (choice : ℕ → Bool) (x : ℕ) (same : (i : ℕ) → i < n → bit x i ≡ choice i) where
  pub low_ones : (r : ℕ) → r ≡ low_bits x n → OnesBelow n choice r
  low_ones r e = record { small = rw e (mod-lt x (pow_pos n)); ones = λ i. rw e (bit_below x n i ∙ at i (below_or_not i n)) }
    where
      at : (i : ℕ) → (i < n) ⊎ (n ≤ i) → (ltb i n && bit x i) ≡ (ltb i n && choice i)
      at i (inl h) = ap (λ (b : Bool). ltb i n && b) (same i h)
      at i (inr h) = let g = le-ltb i n h in rw g

module _ (masked asked : Bool) (mask n : ℕ) (word : mask < 2 ^ 64) (short : n ≤ 64) where
  pub all-chosen : masked ≡ false → (r : ℕ) → r ≡ low_bits (2 ^ 64 - 1) n → OnesBelow n (chosen masked asked mask) r
  all-chosen e = low_ones n _ (2 ^ 64 - 1) (λ i h. bit-complement 64 0 i (omega arith) (omega arith) ∙ ap not (bit-none i) ∙ rw e)

  pub ones-chosen : masked ≡ true → asked ≡ true → (r : ℕ) → r ≡ low_bits mask n → OnesBelow n (chosen masked asked mask) r
  ones-chosen e f = low_ones n _ mask (λ i h. rw (e, f) (is_true (bit mask i)))
    where
      is_true : (b : Bool) → b ≡ beq b true
      is_true true = refl
      is_true false = refl

  pub zeros-chosen : masked ≡ true → asked ≡ false → (r : ℕ) → r ≡ low_bits (complement 64 mask) n → OnesBelow n (chosen masked asked mask) r
  zeros-chosen e f = low_ones n _ (complement 64 mask) (λ i h. bit-complement 64 mask i word (omega arith) ∙ rw (e, f) (is_false (bit mask i)))
    where
      is_false : (b : Bool) → not b ≡ beq b false
      is_false true = refl
      is_false false = refl

-- ---- the walk: a step f for each one of `which`

module _ {A : Type 0} (f : ℕ → A → A) where
  ones_step : (x i : ℕ) (a : A) → digit x i ≡ 1 → of_ones f x i a ≡ f i a
  unfolding of_ones
  ones_step x i a e = pick_true (bit x i) (f i a) a (bit_is x i 1 e)

  no_step : (x i : ℕ) (a : A) → bit x i ≡ false → of_ones f x i a ≡ a
  unfolding of_ones
  no_step x i a e = pick-false (bit x i) (f i a) a e

  same_step : (x y i : ℕ) (a : A) → bit x i ≡ bit y i → of_ones f x i a ≡ of_ones f y i a
  unfolding of_ones
  same_step x y i a e = ap (λ (b : Bool). pick b (f i a) a) e

  -- below the lowest one nothing is done
  module _ (x i : ℕ) (h : Lowest x i) (a : A) where
    none_below : a ≡ rising (of_ones f x) i a
    none_below = settles (of_ones f x) a a 0 i (omega arith) (λ j _ g. no_step x j a (bit_is x j 0 (h.zeros j g))) (starts (of_ones f x) a)

    -- the step of the lowest one first, then those of the others
    first : (n : ℕ) → i < n → rising (of_ones f x) n a ≡ rising (of_ones f (without_bit x i)) n (f i a)
    unfolding rising
    first n g = grows (of_ones f x) (of_ones f y) (suc i) n a b g (λ j z k. same_step x y j z (sym (kept x i j (λ e. omega arith)))) both
      where
        y : ℕ
        y = without_bit x i

        b : A
        b = f i a

        below : b ≡ rising (of_ones f y) i b
        below =
            settles (of_ones f y) b b 0 i (omega arith) (λ j _ k. no_step y j b (kept x i j (λ e. omega arith) ∙ bit_is x j 0 (h.zeros j k)))
            (starts (of_ones f y) b)

        both : rising (of_ones f x) (suc i) a ≡ rising (of_ones f y) (suc i) b
        both = ap (of_ones f x i) (sym none_below) ∙ ones_step x i a h.one ∙ sym (no_step y i b (gone x i)) ∙ ap (of_ones f y i) below

-- a is what the steps taken left, and `left` the ones still to come: their steps on a make what all steps make of a₀
pub record Walk {A : Type 0} (f : ℕ → A → A) (which n : ℕ) (a₀ : A) (left : ℕ) (a : A) : Type 0 where
  pub among : (i : ℕ) → bit left i ≡ true → bit which i ≡ true
  pub small : left < 2 ^ n
  pub leads : rising (of_ones f left) n a ≡ rising (of_ones f which) n a₀

module _ {A : Type 0} (f : ℕ → A → A) (which n : ℕ) (a₀ : A) where
  pub starts-walk : which < 2 ^ n → Walk f which n a₀ which a₀
  starts-walk h = record { among = λ i e. e; small = h; leads = refl }

  module _ (left : ℕ) (a : A) (w : Walk f which n a₀ left a) where
    -- what no step changes is the end
    pub stops-walk : ((j : ℕ) → f j a ≡ a) → a ≡ rising (of_ones f which) n a₀
    unfolding of_ones
    stops-walk s = settles (of_ones f left) a a 0 n (omega arith) (λ j _ _. either j (bit left j)) (starts (of_ones f left) a) ∙ w.leads
      where
        either : (j : ℕ) (b : Bool) → pick b (f j a) a ≡ a
        either j true = s j
        either j false = refl

    pub ends-walk : left ≡ 0 → a ≡ rising (of_ones f which) n a₀
    ends-walk e =
        settles (of_ones f left) a a 0 n (omega arith) (λ j _ _. no_step f left j a (ap (λ (x : ℕ). bit x j) e ∙ bit-none j)) (starts (of_ones f left) a)
        ∙ w.leads

    -- one turn, at the lowest one
    module _ (some : 0 < left) (narrow : left < 2 ^ 64) (i : ℕ) (at : i ≡ lowest_one left) where
      is-lowest : Lowest left i
      is-lowest = subst (Lowest left) (sym at) (lowest 64 left some narrow)

      pub index_below : i < n
      index_below = inside left i is-lowest n w.small

      pub index-one : bit which i ≡ true
      index-one = w.among i (bit_is left i 1 is-lowest.one)

      module _ (rest : ℕ) (others : rest ≡ without_bit left (lowest_one left)) where
        is-rest : without_bit left i ≡ rest
        is-rest = ap (without_bit left) at ∙ sym others

        -- the measure of the loop
        pub less-left : rest < left
        less-left = let g = less left i is-lowest some in let e = is-rest in omega arith

        pub turns-walk : (b : A) → b ≡ f i a → Walk f which n a₀ rest b
        turns-walk b e = record {
          among = λ j g. still j g (dec_eq j i);
          small = let g = less-left in let h = w.small in omega arith;
          leads = ap₂ (λ (x : ℕ) (y : A). rising (of_ones f x) n y) (sym is-rest) e ∙ sym (first f left i is-lowest a n index_below) ∙ w.leads;
        }
          where
            still : (j : ℕ) → bit rest j ≡ true → Dec (j ≡ i) → bit which j ≡ true
            still j g (yes p) = subst (λ (k : ℕ). bit which k ≡ true) (sym p) index-one
            still j g (no p) = w.among j (sym (kept left i j p) ∙ ap (λ (x : ℕ). bit x j) is-rest ∙ g)

-- ---- steps of the ones of a set

-- those that J carries over to others
pub ones-carry : {A B : Type 0} (J : A → B) (f : ℕ → A → A) (g : ℕ → B → B) (which n : ℕ) (a : A) → ((i : ℕ) (x : A) → i < n → J (f i x) ≡ g i (J x))
    → J (rising (of_ones f which) n a) ≡ rising (of_ones g which) n (J a)
unfolding of_ones
ones-carry J f g which n a h = carries J (of_ones f which) (of_ones g which) n a (λ i x k. at i x k (bit which i))
  where
    at : (i : ℕ) (x : _) → i < n → (t : Bool) → J (pick t (f i x) x) ≡ pick t (g i (J x)) (J x)
    at i x k true = h i x k
    at i x k false = refl

-- those that are alike
pub ones-alike : {A : Type 0} (f g : ℕ → A → A) (which n : ℕ) (a : A) → ((i : ℕ) (x : A) → i < n → f i x ≡ g i x)
    → rising (of_ones f which) n a ≡ rising (of_ones g which) n a
ones-alike f g which n a h = ones-carry (λ x. x) f g which n a h

module _ {A : Type 0} (f : ℕ → A → A) (a : A) where
  -- the set of all numbers below n
  pub all-below : (n which : ℕ) → n ≤ 64 → which ≡ low_bits (2 ^ 64 - 1) n → rising f n a ≡ rising (of_ones f which) 64 a
  unfolding of_ones
  all-below n which h e =
      alike f (of_ones f which) n a (λ i x k. sym (takes i x (is-in i k)))
      ∙ settles (of_ones f which) (rising (of_ones f which) n a) a n 64 h (λ j k _. no_step f which j _ (is-out j k)) refl
    where
      takes : (i : ℕ) (x : A) → bit which i ≡ true → of_ones f which i x ≡ f i x
      takes i x g = pick_true (bit which i) (f i x) x g

      is : (i : ℕ) → bit which i ≡ (ltb i n && bit (2 ^ 64 - 1) i)
      is i = ap (λ (x : ℕ). bit x i) e ∙ bit_below (2 ^ 64 - 1) n i

      is-in : (i : ℕ) → i < n → bit which i ≡ true
      is-in i k = is i ∙ ap₂ (λ (s t : Bool). s && t) (lt-ltb i n k) (bit-complement 64 0 i (omega arith) (omega arith) ∙ ap not (bit-none i))

      is-out : (i : ℕ) → n ≤ i → bit which i ≡ false
      is-out i k = is i ∙ ap (λ (t : Bool). t && bit (2 ^ 64 - 1) i) (le-ltb i n k)

  -- a set of one number
  pub single : (e x : ℕ) → e < 64 → bit x e ≡ true → ((j : ℕ) → j < 64 → bit x j ≡ true → j ≡ e) → rising (of_ones f x) 64 a ≡ f e a
  unfolding rising of_ones
  single e x h one only =
      sym (settles g (g e a) a (suc e) 64 h (λ j k b. no_step f x j _ (other j b (λ q. omega arith))) (ap (g e) below))
      ∙ pick_true (bit x e) (f e a) a one
    where
      g : ℕ → A → A
      g = of_ones f x

      other : (j : ℕ) → j < 64 → (j ≡ e → ⊥) → bit x j ≡ false
      other j b q = at (bit x j) refl
        where
          at : (t : Bool) → bit x j ≡ t → bit x j ≡ false
          at true k = absurd (q (only j b k))
          at false k = k

      below : a ≡ rising g e a
      below = settles g a a 0 e (omega arith) (λ j _ k. no_step f x j a (other j (omega arith) (λ q. omega arith))) (starts g a)

-- the next one is above the one that is taken
pub rises : (left : ℕ) → 0 < left → left < 2 ^ 64 → lowest_one left < lowest_one (without_bit left (lowest_one left))
rises left some narrow = at (below_or_not 0 rest)
  where
    i : ℕ
    i = lowest_one left

    rest : ℕ
    rest = without_bit left i

    here : Lowest left i
    here = lowest 64 left some narrow

    at : (0 < rest) ⊎ (rest ≤ 0) → i < lowest_one rest
    at (inr h) = let e : rest ≡ 0 = omega arith in rw (e, trailing_of_zero 64) (inside left i here 64 narrow)
    at (inl h) =
        let g : rest < left = less left i here some in
        let next : Lowest rest (lowest_one rest) = lowest 64 rest h (omega arith) in
        higher (lowest_one rest) next (below_or_not i (lowest_one rest))
      where
        higher : (j : ℕ) → Lowest rest j → (i < j) ⊎ (j ≤ i) → i < j
        higher j next (inl k) = k
        higher j next (inr k) = absurd (clash (dec_eq j i))
          where
            clash : Dec (j ≡ i) → ⊥
            clash (yes q) = true-not-false (sym (gone left i) ∙ ap (bit rest) (sym q) ∙ bit_is rest j 1 next.one)
            clash (no q) =
                let z : digit left j ≡ 0 = here.zeros j (omega arith) in
                true-not-false (sym (bit_is left j 0 z) ∙ sym (kept left i j q) ∙ bit_is rest j 1 next.one)
