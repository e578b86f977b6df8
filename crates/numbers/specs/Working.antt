-- Sets of elements as the ones of a number, as the code takes them. No public promise cites this.
use Rattle.std.specs.Prelude.{Bool, not, ◌&&◌, ◌||◌, ◌≡◌, ℕ, ◌-◌, ◌%◌, ◌^◌, ◌<◌, ltb, Option, MatchOption}
use Rattle.std.specs.Bool.{beq}
use Rattle.std.specs.Int.Count.{count_trailing_zeros}
use Rattle.numbers.specs.Bits.{bit, without_bit}
use Rattle.numbers.specs.Choice.{pick}

-- the n lowest bits of x
abbrev pub low_bits : ℕ → ℕ → ℕ
low_bits x n = x % 2 ^ n

-- x, below 2^w, with every one of its w bits turned
abbrev pub complement : ℕ → ℕ → ℕ
complement w x = 2 ^ w - 1 - x

-- the number of the lowest one of 64 bits; 64 if there is none
abbrev pub lowest_one : ℕ → ℕ
lowest_one x = count_trailing_zeros 64 x

-- i is the lowest one of s, which has some among 64 bits, and t is s without it
pub record TakesLowest (s i t : ℕ) : Type 0 where
  pub some : 0 < s
  pub below : i < 64
  pub lowest : i ≡ lowest_one s
  pub others : t ≡ without_bit s (lowest_one s)

-- a walk over the ones of s: the lowest comes, and t is left; where there is none, nothing comes and none are left
abbrev pub GivesLowest : ℕ → Option ℕ → ℕ → Type 0
GivesLowest s r t = MatchOption r ((s ≡ 0) × (t ≡ 0)) (λ i. TakesLowest s i t)

-- number i is chosen: always, or where bit i of a mask is as asked
abbrev pub chosen : Bool → Bool → ℕ → ℕ → Bool
chosen masked asked mask i = not masked || beq (bit mask i) asked

-- the ones of x are the numbers below n that are chosen
pub record OnesBelow (n : ℕ) (choice : ℕ → Bool) (x : ℕ) : Type 0 where
  pub small : x < 2 ^ n
  pub ones : (i : ℕ) → bit x i ≡ (ltb i n && choice i)

-- the step of element i, if bit i of x is one
unfoldable pub of_ones : {A : Type 0} → (ℕ → A → A) → ℕ → ℕ → A → A
of_ones f x i a = pick (bit x i) (f i a) a
