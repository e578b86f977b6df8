-- Laws of little-endian bytes: a number that fits comes back from its bytes, and bytes from their number. Assumes nothing.
use mathlib.Core.Bool.{true}
use mathlib.Core.Path.{◌≡◌, refl, sym, ap, ◌∙◌, subst}
use mathlib.Core.List.{List, [], ◌∷◌}
use Prim.Native.Nat.{ℕ, zero, suc, ◌+◌, ◌*◌, ◌/◌, ◌%◌, ◌^◌, ◌<◌}
use native.Mathlib.Nat.{pow-suc}
use native.Mathlib.Omega.{arith}
use lib.Dec.{eqb}
use lib.ListN.{length, take, drop}
use lib.Seq.{get_or-drop}
use borrow.Author.Tests.{eqb-true}
use borrow.Author.Rules.{rules}
use Rattle.std.specs.Int.{to_le_bytes, w64}
use Rattle.numbers.specs.Bytes.{Bytes, bytes_of, number_of, all_zero}
use Rattle.numbers.proofs.Tests.{and_left, and_right}

pub bytes_drop : (n : ℕ) (l : List ℕ) → Bytes l → Bytes (drop n l)
bytes_drop n l h i = subst (λ (x : ℕ). x < 256) (sym (get_or-drop n l i 0)) (h (n + i))

pub bytes_take : (n : ℕ) (l : List ℕ) → Bytes l → Bytes (take n l)
bytes_take zero l h i = omega arith
bytes_take (suc n) [] h i = h i
bytes_take (suc n) (x ∷ l) h zero = h zero
bytes_take (suc n) (x ∷ l) h (suc i) = bytes_take n l (λ j. h (suc j)) i

pub bytes-length : (n x : ℕ) → length (bytes_of n x) ≡ n
bytes-length zero x = refl
bytes-length (suc n) x = ap suc (bytes-length n (x / 256))

-- a number that n bytes hold comes back from them
pub number-back : (n x : ℕ) → x < 256 ^ n → number_of (bytes_of n x) ≡ x
number-back zero x h = omega arith
number-back (suc n) x h =
    let h' : x < 256 ^ n * 256 = subst (λ (m : ℕ). x < m) (pow-suc 256 n) h in
    let i : number_of (bytes_of n (x / 256)) ≡ x / 256 = number-back n (x / 256) (omega arith) in
    omega arith

-- bytes come back from their number
pub bytes_back : (l : List ℕ) → Bytes l → bytes_of (length l) (number_of l) ≡ l
bytes_back [] h = refl
bytes_back (b ∷ l) h =
    let m : (b + 256 * number_of l) % 256 ≡ b = omega (arith, h zero) in
    let d : (b + 256 * number_of l) / 256 ≡ number_of l = omega (arith, h zero) in
    ap (λ (x : ℕ). x ∷ bytes_of (length l) ((b + 256 * number_of l) / 256)) m
    ∙ ap (λ (x : ℕ). b ∷ bytes_of (length l) x) d
    ∙ ap (λ (t : List ℕ). b ∷ t) (bytes_back l (λ i. h (suc i)))

pub zeros-back : (l : List ℕ) → all_zero l ≡ true → l ≡ bytes_of (length l) 0
zeros-back [] e = refl
zeros-back (b ∷ l) e =
    let z : b ≡ 0 = eqb-true b 0 (and_left (eqb b 0) (all_zero l) e) in
    ap (λ (x : ℕ). x ∷ l) z ∙ ap (λ (t : List ℕ). 0 ∷ t) (zeros-back l (and_right (eqb b 0) (all_zero l) e))

-- n bytes make a number below 256 ^ n
pub number-below : (l : List ℕ) → Bytes l → number_of l < 256 ^ length l
number-below [] h = omega arith
number-below (b ∷ l) h =
    let i : number_of l < 256 ^ length l = number-below l (λ j. h (suc j)) in
    let p : b + 256 * number_of l < 256 ^ length l * 256 = omega (arith, h zero) in
    subst (λ (m : ℕ). b + 256 * number_of l < m) (sym (pow-suc 256 (length l))) p

-- the eight bytes that the library makes of a number
pub eight-bytes : (x : ℕ) → to_le_bytes w64 x ≡ bytes_of 8 x
eight-bytes x = search rules
