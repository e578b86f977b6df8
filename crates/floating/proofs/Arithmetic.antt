-- Numbers: powers of two, and products of differences. Assumes nothing.
use Rattle.std.proofs.Common.{◌≡◌, ℕ, suc, ◌+◌, ◌-◌, ◌*◌, ◌^◌, ◌<◌, sym, ap, ◌∙◌, mul_comm, pow-suc, arith, pow-add}
use native.Mathlib.Nat.{mul-sub}

pub pow-two : (i j k : ℕ) → i + j ≡ k → 2 ^ i * 2 ^ j ≡ 2 ^ k
pow-two i j k e = sym (pow-add 2 i j) ∙ ap (λ (z : ℕ). 2 ^ z) e

pub double-power : (p : ℕ) → 0 < p → 2 ^ (p - 1) * 2 ≡ 2 ^ p
double-power p P = let e : suc (p - 1) ≡ p = omega arith in sym (pow-suc 2 (p - 1)) ∙ ap (λ (z : ℕ). 2 ^ z) e

pub sub-mul : (a b c : ℕ) → (a - b) * c ≡ a * c - b * c
sub-mul a b c = mul_comm (a - b) c ∙ mul-sub c a b ∙ ap (λ (z : ℕ). z - c * b) (mul_comm c a) ∙ ap (λ (z : ℕ). a * c - z) (mul_comm c b)
