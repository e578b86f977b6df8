-- Document 01, "Saved state and readings": saving.
use Rattle.std.specs.Prelude.{List, ◌++◌, ℕ, ◌/◌, leb, length, drop, Ok, Err}
use Rattle.numbers.specs.Choice.{pick}
use Rattle.state.specs.declared.answer.Refusal.TheVariants.{BadFile, OutOfRange}
use Rattle.state.specs.Outcome.{Outcome, outcome, refused_bytes}
use Rattle.state.specs.State.{State, in_range}
use Rattle.saved.specs.File.{file_of}

-- The answer, and the lent bytes after it. A state out of range gets 12 first; less than 16,464 bytes
-- get 10 with the first record that has no room; both write nothing. Bytes beyond 16,464 are kept.
unfoldable pub saving : State → List ℕ → Outcome (List ℕ)
saving s bytes =
    pick (in_range s.control)
    (pick (leb 16464 (length bytes))
    (outcome (Ok 0) (file_of s ++ drop 16464 bytes))
    (refused_bytes (Err (BadFile (length bytes / 16))) bytes))
    (refused_bytes (Err OutOfRange) bytes)
