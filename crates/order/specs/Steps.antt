-- Document 01, "Queues and orders": a step's number, and the numbers that pass a test.
use Rattle.std.specs.Prelude.{Bool, List, [], ◌∷◌, ℕ, zero, suc, ◌/◌, ◌%◌}
use Rattle.numbers.specs.Choice.{pick}

-- a step's number: instruction position times 64 plus element
abbrev pub position : ℕ → ℕ
position x = x / 64

abbrev pub element : ℕ → ℕ
element x = x % 64

-- those of the n numbers from i on that pass the test, rising
unfoldable pub passing : (ℕ → Bool) → ℕ → ℕ → List ℕ
passing p i zero = []
passing p i (suc n) = pick (p i) (i ∷ passing p (suc i) n) (passing p (suc i) n)
