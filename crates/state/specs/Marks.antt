-- Document 02, "Which elements were written" (Q-3). Marks: beside the state stands one word of 64 bits for each register; its bit i is element i's.
use Rattle.std.specs.Prelude.{List, ℕ, ◌-◌, ◌^◌, get_or, set, replicate}
use Rattle.std.specs.Int.Bits.{bit_or}
use Rattle.state.specs.State.{State}

-- a state, and the marks beside it
pub record Marked : Type 0 where
  pub state : State
  pub marks : List ℕ

abbrev pub marked : State → List ℕ → Marked
marked s m = record { state = s; marks = m }

-- A set of elements is a number: its bit i says whether element i is in it. The marks that are there are kept, and those of a set of register r's elements
-- join them.
abbrev pub also_marked : List ℕ → ℕ → ℕ → List ℕ
also_marked m r which = set m r (bit_or (get_or m r 0) which)

-- the set of element i alone, and of the first n
abbrev pub one_element : ℕ → ℕ
one_element i = 2 ^ i

abbrev pub first_elements : ℕ → ℕ
first_elements n = 2 ^ n - 1

-- new marks are clear, and so are those after a clear
abbrev pub no_marks : List ℕ
no_marks = replicate 16 0

-- loading a file sets all bits
abbrev pub all_marks : List ℕ
all_marks = replicate 16 (first_elements 64)
