-- Laws of steps in rising order. Assumes nothing.
use mathlib.Core.Path.{◌≡◌, refl, sym, ap, ◌∙◌}
use Prim.Native.Nat.{ℕ, zero, suc, ◌+◌, ◌-◌, ◌≤◌, ◌<◌}
use native.Mathlib.Numerals.{add-one}
use native.Mathlib.Omega.{arith}
use Rattle.numbers.specs.Rising.{rising}

module _ {A : Type 0} (f : ℕ → A → A) where
  pub starts : (a : A) → a ≡ rising f 0 a
  unfolding rising
  starts a = refl

  -- one turn more
  pub turns : (i : ℕ) (a₀ a b : A) → a ≡ rising f i a₀ → b ≡ f i a → b ≡ rising f (i + 1) a₀
  unfolding rising
  turns i a₀ a b e g = rw (add-one, ← e) g

  -- the last turn
  pub ends : (i n : ℕ) (a₀ a : A) → i ≤ n → n ≤ i → a ≡ rising f i a₀ → a ≡ rising f n a₀
  ends i n a₀ a h k e = let g : n ≡ i = omega arith in rw g e

  -- what no further step changes stays
  pub settles : (b a : A) (i n : ℕ) → i ≤ n → ((j : ℕ) → i ≤ j → j < n → f j b ≡ b) → b ≡ rising f i a → b ≡ rising f n a
  unfolding rising
  settles b a i n h s e = let g : n ≡ n - i + i = omega arith in rw g (on (n - i) (omega arith))
    where
      on : (k : ℕ) → k ≤ n - i → b ≡ rising f (k + i) a
      on zero q = let g : 0 + i ≡ i = omega arith in rw g e
      on (suc k) q =
          let g : suc k + i ≡ suc (k + i) = omega arith in
          let p : b ≡ rising f (k + i) a = on k (omega arith) in
          rw (g, ← p) (sym (s (k + i) (omega arith) (omega arith)))

-- steps that are alike below n
pub alike : {A : Type 0} (f g : ℕ → A → A) (n : ℕ) (a : A) → ((i : ℕ) (x : A) → i < n → f i x ≡ g i x) → rising f n a ≡ rising g n a
unfolding rising
alike f g zero a h = refl
alike f g (suc n) a h =
    let e : rising f n a ≡ rising g n a = alike f g n a (λ i x k. h i x (omega arith)) in
    ap (f n) e ∙ h n (rising g n a) (omega arith)

-- steps that are alike from k on
pub grows : {A : Type 0} (f g : ℕ → A → A) (k n : ℕ) (a b : A) → k ≤ n → ((i : ℕ) (x : A) → k ≤ i → f i x ≡ g i x)
    → rising f k a ≡ rising g k b → rising f n a ≡ rising g n b
unfolding rising
grows f g k n a b h s e = let j : n ≡ n - k + k = omega arith in rw j (on (n - k))
  where
    on : (m : ℕ) → rising f (m + k) a ≡ rising g (m + k) b
    on zero = let j : 0 + k ≡ k = omega arith in rw j e
    on (suc m) = let j : suc m + k ≡ suc (m + k) = omega arith in rw j (ap (f (m + k)) (on m) ∙ s (m + k) (rising g (m + k) b) (omega arith))

-- steps that J carries over to others
pub carries : {A B : Type 0} (J : A → B) (f : ℕ → A → A) (g : ℕ → B → B) (n : ℕ) (a : A)
    → ((i : ℕ) (x : A) → i < n → J (f i x) ≡ g i (J x)) → J (rising f n a) ≡ rising g n (J a)
unfolding rising
carries J f g zero a h = refl
carries J f g (suc n) a h = h n (rising f n a) (omega arith) ∙ ap (g n) (carries J f g n a (λ i x k. h i x (omega arith)))

-- steps that are alike below n, and of which those from n on do nothing
pub cut : {A : Type 0} (f g : ℕ → A → A) (n m : ℕ) (a : A) → n ≤ m → ((i : ℕ) (x : A) → i < n → f i x ≡ g i x)
    → ((i : ℕ) (x : A) → n ≤ i → f i x ≡ x) → rising f m a ≡ rising g n a
cut f g n m a h like idle = sym (settles f (rising f n a) a n m h (λ j k _. idle j (rising f n a) k) refl) ∙ alike f g n a like
