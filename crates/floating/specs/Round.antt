-- Rounding of num / den, halves away from zero (document 01, "What an element receives"): to a whole number, and to p significant bits for any p.
-- Definitions only.
use Rattle.std.specs.Prelude.{ℕ, ◌+◌, ◌-◌, ◌*◌, ◌/◌, ◌^◌, nat_lt}
use Rattle.std.specs.Float.Ieee.{size}
use Rattle.numbers.specs.Choice.{pick}

-- the nearest whole number, a half up; signs are kept apart, so up is away from zero
abbrev pub near : ℕ → ℕ → ℕ
near num den = (num * 2 + den) / (den * 2)

-- the whole number towards zero
abbrev pub chopped : ℕ → ℕ → ℕ
chopped num den = num / den

-- how many binary digits the whole part has past p
abbrev pub places : ℕ → ℕ → ℕ → ℕ
places p num den = size (num / den) - p

-- sig * 2 ^ exp
pub record Rounded : Type 0 where
  pub sig : ℕ
  pub exp : ℕ

-- the carry: a significand that reached 2 ^ p is 2 ^ (p - 1), with the next exponent
abbrev pub carried : ℕ → ℕ → ℕ → Rounded
carried p r k = pick (nat_lt r (2 ^ p)) (record { sig = r; exp = k }) (record { sig = 2 ^ (p - 1); exp = k + 1 })

-- to p significant bits where the whole part has p digits or more; where it has fewer, to a whole number, with the exponent 0
unfoldable pub rounded : ℕ → ℕ → ℕ → Rounded
rounded p num den = carried p (near num (den * 2 ^ places p num den)) (places p num den)
