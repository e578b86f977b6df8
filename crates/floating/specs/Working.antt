-- What the functions inside the crate hand each other; no public promise, and no definition that one cites, uses it. Definitions only.
use Rattle.std.specs.Prelude.{◌≡◌, ℕ, ◌+◌, ◌-◌, ◌*◌, ◌/◌, ◌%◌, ◌^◌, ◌<◌, ◌≤◌, Bool, ◌||◌, ltb, ◌==◌, nat_lt, to_bits, Float}
use Rattle.std.specs.declared.cmp.Ordering.{Ordering}
use Rattle.std.specs.declared.cmp.Ordering.TheVariants.{Less, Equal, Greater}
use Rattle.std.specs.Float.{binary64}
use Rattle.std.specs.Float.Ieee.Exact.{HasValue}
use Rattle.numbers.specs.Choice.{pick}
use Rattle.floating.specs.declared.Delivery.{Delivery}
use Rattle.floating.specs.declared.Delivery.TheVariants.{Reserved}
use Rattle.floating.specs.Format.{Format, sign_of, exponent_of, fraction_of, significand_of, is_reserved}
use Rattle.floating.specs.Exact.{Exact, size_of, together}
use Rattle.floating.specs.Round.{carried}
use Rattle.floating.specs.Delivered.{judged, delivered}
use Rattle.floating.specs.Reading.{double_bits}

-- the halves of 32 bits exchanged
abbrev pub swapped : ℕ → ℕ
swapped w = w % 65536 * 65536 + w / 65536

-- how many magnitudes there are
abbrev pub magnitudes : Format → ℕ
magnitudes f = (f.largest + 1) * 2 ^ (f.bits - 1)

-- the exponent with the fraction below it: of two numbers that with the larger magnitude is the larger, up to their signs
abbrev pub magnitude : Format → ℕ → ℕ
magnitude f w = exponent_of f w * 2 ^ (f.bits - 1) + fraction_of f w

-- the size of a number with the magnitude k
abbrev pub size_at : Format → ℕ → ℕ
size_at f k = (2 ^ (f.bits - 1) + k % 2 ^ (f.bits - 1)) * 2 ^ (k / 2 ^ (f.bits - 1))

-- the magnitude of a number with the exponent field e before rounding and the rounded significand m: a carry out of its fraction adds one to the field
abbrev pub packed : Format → ℕ → ℕ → ℕ
packed f e m = e * 2 ^ (f.bits - 1) + (m - 2 ^ (f.bits - 1))

-- x, whose first `bits` of n digits stand before the point, times 2 ^ (e - down) units, with the sign s
abbrev pub placed : Format → ℕ → ℕ → ℕ → ℕ → ℕ → Exact
placed f n s x e down = record { sign = s; num = x * 2 ^ e; den = 2 ^ (down + (n - f.bits)) * 2 ^ (f.bits + f.excess) }

-- what is delivered of a number whose exponent field before rounding is e less down, which may be below zero, and whose rounded significand is m
abbrev pub settled : Format → ℕ → ℕ → ℕ → ℕ → Delivery
settled f s e down m = judged f s (carried f.bits m e).sig ((carried f.bits m e).exp - down)

-- a + b, or with minus a - b
abbrev pub joint : Bool → ℕ → ℕ → ℕ
joint minus a b = pick minus (a - b) (a + b)

-- what a, and b with the sign t, give together
abbrev pub combined : Format → ℕ → ℕ → ℕ → Delivery
combined f a t b =
    pick (is_reserved f a) Reserved
    (pick (is_reserved f b) Reserved
    (delivered f (together (sign_of f a) (size_of f a) t (size_of f b) (2 ^ (f.bits + f.excess)))))

-- the type of the exception of a quotient, by three tests: divisor zero, dividend reserved, divisor reserved; 0 for none
abbrev pub special_quotient_type : Bool → Bool → Bool → ℕ
special_quotient_type zero reserved by-reserved = pick zero (pick reserved 6 2) (pick by-reserved 4 (pick reserved 4 0))

-- num / den has p digits in its whole part at least
abbrev pub Enough : ℕ → ℕ → ℕ → Type 0
Enough p num den = den * 2 ^ (p - 1) ≤ num

-- num / den / 2 ^ k has p digits in its whole part
pub record Normal (p num den k : ℕ) : Type 0 where
  pub low : den * 2 ^ k * 2 ^ (p - 1) ≤ num
  pub high : num < den * 2 ^ k * 2 ^ p

-- made whole: with halves 1 the nearest number, a half up, and with halves 0 the number towards zero
abbrev pub whole_by : ℕ → ℕ → ℕ → ℕ
whole_by halves num den = (num * 2 + halves * den) / (den * 2)

-- x does for n in a longword
pub record StandsFor (x n : ℕ) : Type 0 where
  pub low : x % 0x1_0000_0000 ≡ n % 0x1_0000_0000
  pub past : ltb 0x7fff_ffff x ≡ nat_lt 0x7fff_ffff n
  pub past-least : ltb 0x8000_0000 x ≡ nat_lt 0x8000_0000 n

-- the magnitude, and 0 for zero: the order of the sizes
abbrev pub rank : Format → ℕ → ℕ
rank f w = pick (exponent_of f w == 0) 0 (magnitude f w)

-- the sign, and the magnitude below it
abbrev pub ordinal : Format → ℕ → ℕ
ordinal f w = sign_of f w * magnitudes f + magnitude f w

-- that, and 0 for zero, which has no exponent
abbrev pub level : Format → ℕ → ℕ
level f w = pick (nat_lt (ordinal f w) (2 ^ (f.bits - 1))) 0 (ordinal f w)

-- the binary64 number r is the number of the word w, not zero
pub record Reads (f : Format) (w : ℕ) (r : Float) : Type 0 where
  pub value : HasValue r (sign_of f w == 1) (significand_of f w * 2 ^ exponent_of f w) (2 ^ (f.bits + f.excess))
  pub bits : to_bits binary64 r ≡ double_bits f (sign_of f w) (exponent_of f w) (fraction_of f w)

-- how a number lies to zero
abbrev pub lies : Exact → Ordering
lies x = pick (x.num == 0) Equal (pick (x.sign == 1) Less Greater)

-- bits <1:0> of the relations that name an order
abbrev pub naming : Ordering → ℕ
naming Greater = 0
naming Equal = 1
naming Less = 2

-- one of two words is zero or reserved: its exponent is 0
abbrev pub is_special : Format → ℕ → ℕ → Bool
is_special f a b = exponent_of f a == 0 || exponent_of f b == 0
