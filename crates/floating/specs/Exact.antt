-- Exact numbers, and the exact value of a word (document 01: "Value 0.1f (binary) times 2^(e-128). e = 0 with sign 0 is zero for every fraction").
-- Nothing here is rounded. Definitions only.
use Rattle.std.specs.Prelude.{ℕ, ◌+◌, ◌-◌, ◌*◌, ◌%◌, ◌^◌, Bool, not, ◌&&◌, ℤ, pos, negsuc, neg_ℤ, ◌==◌, nat_lt}
use Rattle.numbers.specs.Choice.{pick}
use Rattle.floating.specs.Format.{Format, sign_of, exponent_of, significand_of}

-- num / den, or minus that where the sign is 1
pub record Exact : Type 0 where
  pub sign : ℕ
  pub num : ℕ
  pub den : ℕ

-- n units of 2 ^ -(bits + excess), with the sign s
abbrev pub units : Format → ℕ → ℕ → Exact
units f s n = record { sign = s; num = n; den = 2 ^ (f.bits + f.excess) }

-- 0.1f is the significand over 2 ^ bits, so 0.1f times 2 ^ (e - excess) is this many units
abbrev pub size_of : Format → ℕ → ℕ
size_of f w = pick (exponent_of f w == 0) 0 (significand_of f w * 2 ^ exponent_of f w)

abbrev pub value_of : Format → ℕ → Exact
value_of f w = units f (sign_of f w) (size_of f w)

-- a whole number
abbrev pub whole : ℤ → Exact
whole (pos n) = record { sign = 0; num = n; den = 1 }
whole (negsuc n) = record { sign = 1; num = n + 1; den = 1 }

-- the whole number n, or minus n where the sign is 1
abbrev pub integer : ℕ → ℕ → ℤ
integer s n = pick (s == 1) (neg_ℤ (pos n)) (pos n)

-- minus x
abbrev pub negative : Exact → Exact
negative x = record { sign = 1 - x.sign; num = x.num; den = x.den }

-- a over d with the sign s, and b over d with the sign t, together
abbrev pub together : ℕ → ℕ → ℕ → ℕ → ℕ → Exact
together s a t b d =
    pick (s == t) (record { sign = s; num = a + b; den = d })
    (pick (nat_lt b a) (record { sign = s; num = a - b; den = d })
    (record { sign = t; num = b - a; den = d }))

abbrev pub plus : Exact → Exact → Exact
plus x y = together x.sign (x.num * y.den) y.sign (y.num * x.den) (x.den * y.den)

abbrev pub minus : Exact → Exact → Exact
minus x y = plus x (negative y)

abbrev pub times : Exact → Exact → Exact
times x y = record { sign = (x.sign + y.sign) % 2; num = x.num * y.num; den = x.den * y.den }

-- x over y, where y is not zero
abbrev pub over : Exact → Exact → Exact
over x y = record { sign = (x.sign + y.sign) % 2; num = x.num * y.den; den = x.den * y.num }

-- x is less than y: x minus y is below zero
abbrev pub is_less : Exact → Exact → Bool
is_less x y = not ((minus x y).num == 0) && (minus x y).sign == 1

abbrev pub is_equal : Exact → Exact → Bool
is_equal x y = (minus x y).num == 0
