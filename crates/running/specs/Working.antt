-- What the code computes with when it takes its input apart. No public promise cites this.
use Rattle.std.specs.Prelude.{List, ℕ, zero, suc, ltb, set}
use Rattle.numbers.specs.Choice.{pick}

-- l with its first n places holding these
unfoldable pub filled : ℕ → (ℕ → ℕ) → List ℕ → List ℕ
filled zero f l = l
filled (suc n) f l = set (filled n f l) n (f n)

-- how many of n bytes are the file's
abbrev pub file_size : ℕ → ℕ
file_size n = pick (ltb n 16464) n 16464
