-- Document 01, "Saved state and readings": a reading of one element, whose kind the caller names.
use Rattle.std.specs.Prelude.{Bool, ◌&&◌, ◌≡◌, ℕ, ⊤, ltb, eqb, Result, Ok, Err}
use Rattle.numbers.specs.Choice.{pick}
use Rattle.numbers.specs.Halves.{low}
use Rattle.state.specs.declared.Control.{Control}
use Rattle.state.specs.Answer.{Answer}
use Rattle.state.specs.declared.answer.Refusal.{Refusal}
use Rattle.state.specs.declared.answer.Refusal.TheVariants.{OutOfRange, NoSuchField}
use Rattle.state.specs.State.{State, in_range}
use Rattle.state.specs.Elements.{at}
use Rattle.floating.specs.declared.Reading.{Reading}
use Rattle.floating.specs.Format.{F, is_reserved}
use Rattle.floating.specs.Reading.{Shows, shown_bits, longword_reading, bits_of}

-- a reading, or why there is none
abbrev pub Panel : Type 0
Panel = Result Reading Refusal

-- the answer: what was read stands in the reading
abbrev pub panel_answer : Panel → Answer
panel_answer (Ok reading) = Ok 0
panel_answer (Err refusal) = Err refusal

-- kind 0 for F and 1 for longword; another kind, a register over 15 or an element over 63 gets 13
abbrev pub is_field : ℕ → ℕ → ℕ → Bool
is_field register element kind = ltb register 16 && (ltb element 64 && ltb kind 2)

-- readings: 12, 13
unfoldable pub field_answer : Control → ℕ → ℕ → ℕ → Answer
field_answer c register element kind = pick (in_range c) (pick (is_field register element kind) (Ok 0) (Err NoSuchField)) (Err OutOfRange)

-- what is shown of a word: for F its kind, its bits and its exact value; for a longword, the number in two's complement and its 32 bits as they stand
pub record ShownAs (kind word : ℕ) (r : Reading) : Type 0 where
  pub floating : kind ≡ 0 → Shows F word r
  pub longword : kind ≡ 1 → (r ≡ longword_reading word) × (bits_of r ≡ word)

-- the same as two numbers: its kind, 0 binary64, 1 longword, 2 reserved operand; and its bits
abbrev pub kind_shown : ℕ → ℕ → ℕ
kind_shown kind word = pick (eqb kind 0) (pick (is_reserved F word) 2 0) 1

abbrev pub bits_shown : ℕ → ℕ → ℕ
bits_shown kind word = pick (eqb kind 0) (shown_bits F word) word

-- a reading is what is shown of the word
abbrev pub Holds : ℕ → ℕ → Panel → Type 0
Holds kind word (Ok r) = ShownAs kind word r
Holds kind word (Err refusal) = ⊤

-- The answer, and the reading where there is one: it is of bits <31:0> of the element.
pub record Answered (s : State) (register element kind : ℕ) (p : Panel) : Type 0 where
  pub answer : panel_answer p ≡ field_answer s.control register element kind
  pub reading : Holds kind (low (at s.elements register element)) p
