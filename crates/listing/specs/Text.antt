-- Document 01, "Saved state and readings": what the lister prints, as bytes of ASCII.
use Rattle.std.specs.Prelude.{List, [], ◌∷◌, ◌++◌, ℕ, zero, suc, ◌+◌, ◌/◌, ◌%◌, ltb, leb, eqb, length, get_or, Ok, Err}
use Rattle.numbers.specs.Choice.{pick}
use Rattle.numbers.specs.Over.{over}
use Rattle.state.specs.Answer.{Answer}
use Rattle.state.specs.declared.answer.Refusal.TheVariants.{BadFile, OutOfRange}
use Rattle.state.specs.Answer.{number_of, beside_of}
use Rattle.state.specs.Outcome.{Outcome, outcome, refused_bytes}
use Rattle.state.specs.State.{State, in_range}
use Rattle.state.specs.declared.Control.{Control}
use Rattle.saved.specs.Load.{leading, accepted, state_in}

-- the digit of a number below 16: 0 to 9, then capitals
unfoldable pub digit_of : ℕ → ℕ
digit_of d = pick (ltb d 10) (48 + d) (55 + d)

-- the last n digits of x in a base, the highest first
unfoldable pub digits : ℕ → ℕ → ℕ → List ℕ
digits base zero x = []
digits base (suc n) x = digits base n (x / base) ++ (digit_of (x % base) ∷ [])

-- how many digits plain decimal takes, n at most: a number below ten takes one, another one more than its tenth
unfoldable pub decimals : ℕ → ℕ → ℕ
decimals zero x = zero
decimals (suc n) x = pick (ltb x 10) 1 (suc (decimals n (x / 10)))

-- 20 digits hold every number of 64 bits: proofs/Width.antt, `number-whole`
unfoldable pub width_of : ℕ → ℕ
width_of x = decimals 20 x

-- a line: what it starts with, n digits of x in a base, and a newline
unfoldable pub line : List ℕ → ℕ → ℕ → ℕ → List ℕ
line start base n x = start ++ (digits base n x ++ (10 ∷ []))

-- `Vrr[ee] hhhhhhhhhhhhhhhh`
unfoldable pub element_line : ℕ → ℕ → ℕ → List ℕ
element_line register element contents =
    (86 ∷ []) ++ (digits 10 2 register ++ ((91 ∷ []) ++ (digits 10 2 element ++ line (93 ∷ 32 ∷ []) 16 16 contents)))

-- the line of record k; a zero element has none
unfoldable pub element_text : ℕ → ℕ → List ℕ
element_text k contents = pick (eqb contents 0) [] (element_line (k / 64) (k % 64) contents)

-- the lines of the first n elements, in record order
unfoldable pub element_lines : ℕ → List ℕ → List ℕ
element_lines zero elements = []
element_lines (suc n) elements = element_lines n elements ++ element_text n (get_or elements n 0)

-- `VLR `, `VMR `, `VCR `, `VAER `, `VPSR `
unfoldable pub control_lines : Control → List ℕ
control_lines c =
    line (86 ∷ 76 ∷ 82 ∷ 32 ∷ []) 10 (width_of c.vlr) c.vlr
    ++ (line (86 ∷ 77 ∷ 82 ∷ 32 ∷ []) 16 16 c.vmr
    ++ (line (86 ∷ 67 ∷ 82 ∷ 32 ∷ []) 10 (width_of c.vcr) c.vcr
    ++ (line (86 ∷ 65 ∷ 69 ∷ 82 ∷ 32 ∷ []) 16 8 c.vaer
    ++ line (86 ∷ 80 ∷ 83 ∷ 82 ∷ 32 ∷ []) 16 8 c.vpsr)))

-- the listing of a state
unfoldable pub listing : State → List ℕ
listing s = element_lines 1024 s.elements ++ control_lines s.control

-- `bad record ` and the number
unfoldable pub bad_line : ℕ → List ℕ
bad_line n = line (98 ∷ 97 ∷ 100 ∷ 32 ∷ 114 ∷ 101 ∷ 99 ∷ 111 ∷ 114 ∷ 100 ∷ 32 ∷ []) 10 (width_of n) n

-- an answer's line: the number, one space, what stands beside it
unfoldable pub answer_line : Answer → List ℕ
answer_line a = digits 10 (width_of (number_of a)) (number_of a) ++ line (32 ∷ []) 10 (width_of (beside_of a)) (beside_of a)

-- the listing of the state that a file loads, or its first bad record
unfoldable pub listed : List ℕ → List ℕ
listed file = pick (accepted file) (listing (state_in file)) (bad_line (leading 1029 file))

-- What a call that prints a text into lent bytes answers, and the bytes after it: the text's length and the
-- text, with the bytes beyond it kept; with less room than it asks for, 10, and nothing is written.
unfoldable pub printed : ℕ → List ℕ → List ℕ → Outcome (List ℕ)
printed room text bytes = pick (leb room (length bytes)) (outcome (Ok (length text)) (over bytes 0 text)) (refused_bytes (Err (BadFile 0)) bytes)

-- 25,663 bytes hold every listing; a state out of range gets 12 first
unfoldable pub state_listed : State → List ℕ → Outcome (List ℕ)
state_listed s bytes = pick (in_range s.control) (printed 25663 (listing s) bytes) (refused_bytes (Err OutOfRange) bytes)

abbrev pub file_listed : List ℕ → List ℕ → Outcome (List ℕ)
file_listed file bytes = printed 25663 (listed file) bytes

-- 42 bytes hold every answer's line
abbrev pub answer_listed : Answer → List ℕ → Outcome (List ℕ)
answer_listed a bytes = printed 42 (answer_line a) bytes
