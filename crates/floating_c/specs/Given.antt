-- What a call from C gets: an answer as one number, and the products of two runs of words. Definitions only.
use Rattle.std.specs.Prelude.{ℕ, ◌+◌, ◌*◌, ◌≤◌, ◌<◌, ◌≡◌, Bool, false, not, List, eqb, ltb, length, get_or}
use Rattle.numbers.specs.Choice.{pick}
use Rattle.floating.specs.declared.Flagged.{Flagged}
use Rattle.floating.specs.declared.Compared.{Compared}
use Rattle.floating.specs.Format.{F}
use Rattle.floating.specs.Operations.{answered, product}

-- EXC from a number: any but 0 sets it
abbrev pub is_set : ℕ → Bool
is_set exc = not (eqb exc 0)

-- the value in the low 32 bits, the type bits above
unfoldable pub joined : Flagged → ℕ
joined r = r.value + r.types * 0x1_0000_0000

-- the mask bit in bit 0, the type bits from bit 32 on
unfoldable pub joined_bit : Compared → ℕ
joined_bit r = pick r.bit 1 0 + r.types * 0x1_0000_0000

abbrev pub shorter : ℕ → ℕ → ℕ
shorter x y = pick (ltb x y) x y

abbrev pub shortest : List ℕ → List ℕ → List ℕ → ℕ
shortest a b c = shorter (shorter (length a) (length b)) (length c)

-- the value of the product at i, EXC being clear
abbrev pub value_at : List ℕ → List ℕ → ℕ → ℕ
value_at a b i = (answered false (product F (get_or a i 0) (get_or b i 0))).value

-- out, from what it was to what it is: the first n products in their places, and the rest kept
pub record Multiplied (a b was is : List ℕ) (n : ℕ) : Type 0 where
  pub long : length is ≡ length was
  pub made : (k : ℕ) → k < n → get_or is k 0 ≡ value_at a b k
  pub kept : (k : ℕ) → n ≤ k → get_or is k 0 ≡ get_or was k 0
