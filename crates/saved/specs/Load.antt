-- Document 01, "Saved state and readings": a file is refused at its first record that is missing, cut,
-- out of range, misnumbered, with a filler byte not zero, or extra (1,029).
use Rattle.std.specs.Prelude.{Bool, true, ◌&&◌, List, [], ◌∷◌, ◌++◌, ℕ, zero, suc, ◌+◌, ◌*◌, ltb, leb, eqb, length, take, drop, set, Ok, Err}
use Rattle.numbers.specs.Bytes.{number_of, all_zero}
use Rattle.numbers.specs.Choice.{pick}
use Rattle.state.specs.declared.answer.Refusal.TheVariants.{BadFile}
use Rattle.state.specs.Answer.{is_done}
use Rattle.state.specs.Marks.{Marked, marked, all_marks}
use Rattle.state.specs.Outcome.{Outcome, outcome, refused_state}
use Rattle.state.specs.State.{State, state, length_in_range, vaer_in_range, vpsr_in_range}
use Rattle.state.specs.declared.Control.{Control}

-- the 16 bytes of record k
abbrev pub record_at : List ℕ → ℕ → List ℕ
record_at file k = take 16 (drop (k * 16) file)

-- the parts of a record
abbrev pub number_in : List ℕ → ℕ
number_in part = number_of (take 2 part)

abbrev pub filler_in : List ℕ → List ℕ
filler_in part = take 6 (drop 2 part)

abbrev pub contents_in : List ℕ → ℕ
contents_in part = number_of (drop 8 part)

-- what record k may hold: an element and VMR anything, the others what a state may hold, in all 64 bits
unfoldable pub contents_in_range : ℕ → ℕ → Bool
contents_in_range k v =
    pick (ltb k 1024) true
    (pick (eqb k 1024) (length_in_range v)
    (pick (eqb k 1025) true
    (pick (eqb k 1026) (length_in_range v)
    (pick (eqb k 1027) (vaer_in_range v) (vpsr_in_range v)))))

-- 16 bytes that are a record k: rightly numbered, filler bytes zero, contents in range
unfoldable pub good_part : List ℕ → ℕ → Bool
good_part part k = eqb (number_in part) k && (all_zero (filler_in part) && contents_in_range k (contents_in part))

-- the file has a record k that is neither missing nor cut, and good
unfoldable pub good_record : List ℕ → ℕ → Bool
good_record file k = leb (k * 16 + 16) (length file) && good_part (record_at file k) k

-- of the first n records, how many come before the first that is not good
unfoldable pub leading : ℕ → List ℕ → ℕ
leading zero file = zero
leading (suc n) file = pick (eqb (leading n file) n && good_record file n) (suc n) (leading n file)

-- all records are good, and none is extra
unfoldable pub accepted : List ℕ → Bool
accepted file = eqb (leading 1029 file) 1029 && leb (length file) 16464

-- the first n elements replaced by the contents of the first n records
unfoldable pub elements_in : ℕ → List ℕ → List ℕ → List ℕ
elements_in zero file old = old
elements_in (suc n) file old = set (elements_in n file old) n (contents_in (record_at file n))

unfoldable pub control_in : List ℕ → Control
control_in file =
    record {
      vlr = contents_in (record_at file 1024);
      vmr = contents_in (record_at file 1025);
      vcr = contents_in (record_at file 1026);
      vaer = contents_in (record_at file 1027);
      vpsr = contents_in (record_at file 1028);
    }

-- the contents of the first n records
unfoldable pub first_contents : ℕ → List ℕ → List ℕ
first_contents zero file = []
first_contents (suc n) file = first_contents n file ++ (contents_in (record_at file n) ∷ [])

-- the state that an accepted file holds: `elements_in` gives these elements over any 1,024
unfoldable pub state_in : List ℕ → State
state_in file = state (first_contents 1024 file) (control_in file)

-- The answer, and the state after it. A refusal names the first bad record: 1,029 where all are good
-- and more bytes follow.
unfoldable pub loading : List ℕ → State → Outcome State
loading file old =
    pick (accepted file)
    (outcome (Ok 0) (state (elements_in 1024 file old.elements) (control_in file)))
    (refused_state (Err (BadFile (leading 1029 file))) old)

-- the same of a state with its marks. Document 02, "Which elements were written" (Q-3): "Loading a file sets all bits"; a refused one changes none
unfoldable pub loading_marked : List ℕ → Marked → Outcome Marked
loading_marked file old = outcome o.answer (marked o.left (pick (is_done o.answer) all_marks old.marks))
  where
    o : Outcome State
    o = loading file old.state
