-- How many digits plain decimal takes. Assumes nothing.
use mathlib.Core.Logic.{⊎_elim}
use mathlib.Core.Path.{◌≡◌, sym, ap, ◌∙◌}
use Prim.Native.Nat.{ℕ, zero, suc, ◌+◌, ◌*◌, ◌/◌, ◌^◌, ◌≤◌, ◌<◌}
use native.Mathlib.Nat.{pow-suc, one-le-pow}
use native.Mathlib.Omega.{arith}
use lib.Dec.{ltb}
use borrow.Author.Tests.{lt-ltb, le-ltb}
use Rattle.numbers.proofs.Tests.{pick_true, pick-false, below_or_not}
use Rattle.listing.specs.Text.{decimals, width_of}

-- a number below ten takes one digit, another one more than its tenth
below-ten : (n x : ℕ) → x < 10 → decimals (suc n) x ≡ 1
unfolding decimals
below-ten n x h = pick_true (ltb x 10) 1 _ (lt-ltb x 10 h)

from-ten : (n x : ℕ) → 10 ≤ x → decimals (suc n) x ≡ suc (decimals n (x / 10))
unfolding decimals
from-ten n x h = pick-false (ltb x 10) 1 _ (le-ltb x 10 h)

-- at most n digits are counted
most : (n x : ℕ) → decimals n x ≤ n
unfolding decimals
most zero x = omega arith
most (suc n) x = ⊎_elim (λ h. omega (arith, below-ten n x h)) (λ h. omega (arith, from-ten n x h, most n (x / 10))) (below_or_not x 10)

-- and k at most where it is below ten to the k
below : (n k x : ℕ) → x < 10 ^ suc k → decimals n x ≤ suc k
unfolding decimals
below zero k x h = omega arith
below (suc n) zero x h = omega (arith, below-ten n x h)
below (suc n) (suc k) x h =
    ⊎_elim
    (λ u. omega (arith, below-ten n x u))
    (λ u. omega (arith, from-ten n x u, below n k (x / 10) (omega (arith, pow-suc 10 (suc k)))))
    (below_or_not x 10)

-- n digits count no fewer than the number has where it is below ten to the n
whole : (n x : ℕ) → x < 10 ^ suc n → x < 10 ^ decimals (suc n) x
whole zero x h = rw (below-ten zero x h) h
whole (suc n) x h =
    let less : x / 10 < 10 ^ suc n = omega (arith, pow-suc 10 (suc n)) in
    ⊎_elim
    (λ u. rw (below-ten (suc n) x u) u)
    (λ u. rw (from-ten (suc n) x u) (omega (arith, pow-suc 10 (decimals (suc n) (x / 10)), whole n (x / 10) less)))
    (below_or_not x 10)

-- NO DIGIT IS CUT of a number of 64 bits
pub number-whole : (x : ℕ) → x < 2 ^ 64 → x < 10 ^ width_of x
unfolding width_of
number-whole x h = whole 19 x (omega arith)

pub width-twenty : (x w : ℕ) → w ≡ width_of x → w ≤ 20
unfolding width_of
width-twenty x w e = omega (arith, most 20 x)

-- a length takes two digits at most
pub width_two : (x w : ℕ) → x ≤ 64 → w ≡ width_of x → w ≤ 2
unfolding width_of
width_two x w h e = omega (arith, below 20 1 x (omega arith))

-- as many digits as the greatest power of ten in it has
powers : (n k x : ℕ) → k < n → 10 ^ k ≤ x → x < 10 ^ suc k → decimals n x ≡ suc k
powers zero k x h l u = absurd (omega arith)
powers (suc n) zero x h l u = below-ten n x u
powers (suc n) (suc k) x h l u =
    let p = pow-suc 10 k in
    let q = pow-suc 10 (suc k) in
    let some = one-le-pow k 10 (omega arith) in
    from-ten n x (omega arith) ∙ ap suc (powers n k (x / 10) (omega arith) (omega arith) (omega arith))

pub width_log : (x k : ℕ) → k < 20 → 10 ^ k ≤ x → x < 10 * 10 ^ k → k + 1 ≡ width_of x
unfolding width_of
width_log x k h l u = let q = pow-suc 10 k in let e = powers 20 k x h l (omega arith) in omega arith

pub width_zero : (x : ℕ) → x ≡ 0 → 1 ≡ width_of x
unfolding width_of
width_zero x e = sym (below-ten 19 x (omega arith))
