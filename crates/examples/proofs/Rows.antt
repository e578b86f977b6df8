-- A row of the table of examples: what is put, at which start, and what has to come of it. Then the short forms that rows are written in. A row
-- holds where what is computed from the definitions that the promises cite is what is wanted.
use mathlib.Core.Path.{◌≡◌, refl, sym, ap, ap₂, ◌∙◌}
use mathlib.Core.Bool.{Bool}
use mathlib.Core.List.{List, [], ◌∷◌, ◌++◌}
use Prim.Native.Nat.{ℕ, ◌+◌, ◌*◌}
use lib.ListN.{replicate, set}
use Rattle.memory.specs.Window.{allowed}
use Rattle.touch.specs.Parts.{Queue}
use Rattle.demands.specs.Calls.{Call, Lent, lent, called, execute}

pub data Row : Type 0 where
  -- a call, and what is lent to it; the number and what stands beside it, and what is lent at the end
  puts : Call → (start : Lent) → (given : ℕ × ℕ) → (end : Lent) → Row
  -- a window of so many bytes at an origin, and whether it is allowed
  window : (bytes origin : ℕ) → (answer : Bool) → Row

-- what comes of a row
pub data Came : Type 0 where
  gave : (ℕ × ℕ) × Lent → Came
  answered : Bool → Came

abbrev pub computed : List Row → List Came
computed [] = []
computed (puts call start given end ∷ rows) = gave (called call start) ∷ computed rows
computed (window bytes origin answer ∷ rows) = answered (allowed bytes origin) ∷ computed rows

abbrev pub wanted : List Row → List Came
wanted [] = []
wanted (puts call start given end ∷ rows) = gave (given, end) ∷ wanted rows
wanted (window bytes origin answer ∷ rows) = answered answer ∷ wanted rows

-- THE STATEMENT: every row holds
abbrev pub Holds : List Row → Type 0
Holds rows = computed rows ≡ wanted rows

-- a table holds where its parts do, so that each may be computed by itself
computed-parts : (a b : List Row) → computed (a ++ b) ≡ computed a ++ computed b
computed-parts [] b = refl
computed-parts (puts call start given end ∷ a) b = ap (λ (l : List Came). gave (called call start) ∷ l) (computed-parts a b)
computed-parts (window bytes origin answer ∷ a) b = ap (λ (l : List Came). answered (allowed bytes origin) ∷ l) (computed-parts a b)

wanted-parts : (a b : List Row) → wanted (a ++ b) ≡ wanted a ++ wanted b
wanted-parts [] b = refl
wanted-parts (puts call start given end ∷ a) b = ap (λ (l : List Came). gave (given, end) ∷ l) (wanted-parts a b)
wanted-parts (window bytes origin answer ∷ a) b = ap (λ (l : List Came). answered answer ∷ l) (wanted-parts a b)

pub both_hold : (a b : List Row) → Holds a → Holds b → Holds (a ++ b)
both_hold a b ha hb = computed-parts a b ∙ ap₂ ◌++◌ ha hb ∙ sym (wanted-parts a b)

-- ---- what is lent: all that is not named is zero
-- element e of register r holds x
pub record Cell : Type 0 where
  pub place : ℕ
  pub value : ℕ

abbrev pub v : (r e x : ℕ) → Cell
v r e x = record { place = r * 64 + e; value = x }

abbrev pub holding : List Cell → List ℕ
holding [] = replicate 1024 0
holding (c ∷ cells) = set (holding cells) c.place c.value

-- the five numbers
abbrev pub control : (vlr vmr vcr vaer vpsr : ℕ) → List ℕ
control vlr vmr vcr vaer vpsr = vlr ∷ vmr ∷ vcr ∷ vaer ∷ vpsr ∷ []

-- with VEN 1, VLR and VMR alone
abbrev pub enabled : (vlr : ℕ) → List ℕ
enabled vlr = control vlr 0 0 0 1

abbrev pub masked : (vlr vmr : ℕ) → List ℕ
masked vlr vmr = control vlr vmr 0 0 1

-- after an exception: VEN 0 and AEX 1
abbrev pub stopped : (vlr vaer : ℕ) → List ℕ
stopped vlr vaer = control vlr 0 0 vaer 0x80

-- the state alone, and the state and bytes; marks are lent where a row says so
abbrev pub state : List Cell → List ℕ → Lent
state cells numbers = lent (holding cells) numbers [] [] 0 0

abbrev pub state_and : List Cell → List ℕ → List ℕ → Lent
state_and cells numbers bytes = lent (holding cells) numbers [] bytes 0 0

-- these marks beside it
abbrev pub with : List ℕ → Lent → Lent
with marks l = lent l.elements l.control marks l.bytes l.kind_read l.bits

-- marks of every register, A4: elements 2, 5 and 7 are marked; and those where register r has others
abbrev pub a4 : List ℕ
a4 = replicate 16 0xA4

abbrev pub a4_but : (r word : ℕ) → List ℕ
a4_but r word = set a4 r word

-- ---- rows: a call that is done; one that reads a value; a refused one, which leaves all as it was
abbrev pub done : Call → (start end : Lent) → Row
done call start end = puts call start (0, 0) end

abbrev pub reads : Call → Lent → (value : ℕ) → Row
reads call start value = puts call start (0, value) start

abbrev pub refuses : Call → Lent → (number beside : ℕ) → Row
refuses call start number beside = puts call (with a4 start) (number, beside) (with a4 start)

-- one that is done and marks elements of register r, whose word is A4 before; and one that marks none
abbrev pub marks : (r word : ℕ) → Call → (start end : Lent) → Row
marks r word call start end = done call (with a4 start) (with (a4_but r word) end)

abbrev pub marks_none : Call → (start end : Lent) → Row
marks_none call start end = done call (with a4 start) (with a4 end)

-- ---- one instruction without memory, and with it
abbrev pub operate : (opcode cntrl scalar : ℕ) → Call
operate opcode cntrl scalar = execute opcode cntrl scalar 0 0 0

abbrev pub move : (opcode cntrl base stride origin : ℕ) → Call
move opcode cntrl base stride origin = execute opcode cntrl 0 base stride origin

-- of one element: V1[0], V2[0] and V3[0]
abbrev pub three : (a b c : ℕ) → List Cell
three a b c = v 1 0 a ∷ v 2 0 b ∷ v 3 0 c ∷ []

-- V1[0] is a, V2[0] is b, and V3[0], which was c, becomes r, and is marked; nothing is recorded
abbrev pub becomes : (opcode cntrl scalar a b c r : ℕ) → Row
becomes opcode cntrl scalar a b c r = marks 3 0xA5 (operate opcode cntrl scalar) (state (three a b c) (enabled 1)) (state (three a b r) (enabled 1))

-- with no scalar, and a V3[0] that was zero
abbrev pub gives : (opcode cntrl a b r : ℕ) → Row
gives opcode cntrl a b r = becomes opcode cntrl 0 a b 0 r

-- the same, and VAER gets these bits and the processor stops
abbrev pub records : (opcode cntrl a b r vaer : ℕ) → Row
records opcode cntrl a b r vaer = marks 3 0xA5 (operate opcode cntrl 0) (state (three a b 0) (enabled 1)) (state (three a b r) (stopped 1 vaer))

-- ---- a queue of two
abbrev pub two : (opcode cntrl opcode' cntrl' : ℕ) → Queue
two opcode cntrl opcode' cntrl' =
    record { opcodes = opcode ∷ opcode' ∷ []; control_words = cntrl ∷ cntrl' ∷ []; scalars = 0 ∷ 0 ∷ [] }
