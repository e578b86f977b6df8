-- Writing into a list.
use Rattle.std.specs.Prelude.{List, ◌++◌, ℕ, ◌+◌, length, take, drop}

-- l with what stands from place `at` on replaced by new, and all else kept
abbrev pub over : List ℕ → ℕ → List ℕ → List ℕ
over l at new = take at l ++ (new ++ drop (at + length new) l)
