-- What a rounded result means. Document 01, "What an element receives": "Results are the exact value rounded to 24 bits, halves away from zero. A zero
-- result is all zero bits"; document 02, Q-2: underflow and overflow are judged after rounding. Over the format, of any exact number v.
use Rattle.std.specs.Prelude.{◌↔◌, ◌≡◌, ℕ, ◌+◌, ◌*◌, ◌^◌, ◌≤◌, ◌<◌}
use Rattle.floating.specs.declared.Delivery.TheVariants.{Word, Overflow, Underflow}
use Rattle.floating.specs.Format.{Format, sign_of, exponent_of}
use Rattle.floating.specs.Exact.{Exact, size_of, value_of}
use Rattle.floating.specs.Round.{places}
use Rattle.floating.specs.Delivered.{delivered}

-- v in units of 2 ^ -(bits + excess), over its denominator: the smallest number is 2 ^ bits units, the largest (2 ^ bits - 1) * 2 ^ largest
abbrev pub in_units : Format → Exact → ℕ
in_units f v = v.num * 2 ^ (f.bits + f.excess)

-- how many units the last of v's `bits` digits counts
abbrev pub last_place : Format → Exact → ℕ
last_place f v = 2 ^ places f.bits (in_units f v) v.den

-- w is the word nearest to v: it has v's sign and fills its 16-bit words, and lies half a last place above v at most, and less than that below it: a half
-- goes away from zero
pub record Nearest (f : Format) (v : Exact) (w : ℕ) : Type 0 where
  pub is : delivered f v ≡ Word w
  pub sign : sign_of f w ≡ v.sign
  pub fits : w < 65536 * 65536 ^ f.further
  pub above : size_of f w * v.den * 2 ≤ in_units f v * 2 + v.den * last_place f v
  pub below : in_units f v * 2 < size_of f w * v.den * 2 + v.den * last_place f v

-- a number that is not zero
pub record RoundsSome (f : Format) (v : Exact) : Type 0 where
  -- underflows exactly where it is more than half a unit below the smallest
  pub underflow : (delivered f v ≡ Underflow) ↔ (in_units f v * 2 + v.den < 2 ^ f.bits * (v.den * 2))
  -- overflows exactly where it is half of the largest number's last place or more above that number
  pub overflow : (delivered f v ≡ Overflow) ↔ (2 ^ f.bits * (v.den * 2 ^ f.largest * 2) ≤ in_units f v * 2 + v.den * 2 ^ f.largest)
  -- and else delivers the nearest word
  pub word : (delivered f v ≡ Underflow → ⊥) → (delivered f v ≡ Overflow → ⊥) → (w : ℕ) × Nearest f v w

pub record Rounds (f : Format) (v : Exact) : Type 0 where
  pub zero : v.num ≡ 0 → delivered f v ≡ Word 0
  pub some : v.sign < 2 → 0 < v.den → (v.num ≡ 0 → ⊥) → RoundsSome f v

-- and a number's own word is what its value delivers
abbrev pub OwnWord : Format → ℕ → Type 0
OwnWord f w = w < 65536 * 65536 ^ f.further → (exponent_of f w ≡ 0 → ⊥) → delivered f (value_of f w) ≡ Word w
