-- DEMAND 2: when an instruction is done, and what it then leaves, said from its entry state; and the two round trips of saving and loading. Document 01,
-- "What an element receives" and "Memory": masked elements, those at or past VLR and everything else are as they were. Document 02, Q-3: and the marks that
-- it adds.
use Rattle.std.specs.Prelude.{true, false, not, ◌&&◌, List, ◌++◌, ◌⊎◌, ◌↔◌, ◌≡◌, ℕ, zero, suc, ◌+◌, ◌-◌, ◌*◌, ◌/◌, ◌%◌, ◌^◌, ◌≤◌, ◌<◌, eqb, length, get_or, take, drop, Ok}
use Rattle.std.specs.Int.Bits.{bit_or}
use Rattle.numbers.specs.Bits.{bit}
use Rattle.numbers.specs.Bytes.{Bytes}
use Rattle.numbers.specs.Choice.{pick}
use Rattle.numbers.specs.Halves.{low, with_low}
use Rattle.state.specs.Answer.{is_done}
use Rattle.state.specs.Marks.{Marked, marked, no_marks}
use Rattle.state.specs.Outcome.{outcome}
use Rattle.state.specs.State.{State, in_range, enabled}
use Rattle.state.specs.Elements.{at, matches}
use Rattle.opcodes.specs.declared.Instruction.{Instruction}
use Rattle.opcodes.specs.Opcodes.{is_memory, writes_mask, in_one_step}
use Rattle.opcodes.specs.Decoding.{decoded_of}
use Rattle.opcodes.specs.Masking.{operated}
use Rattle.element.specs.declared.Out.{Out}
use Rattle.machine.specs.Run.{begun}
use Rattle.machine.specs.Step.{received, register_bit, notes}
use Rattle.machine.specs.Iota.{matching}
use Rattle.memory.specs.Works.{is_store, is_quadword, size_of}
use Rattle.memory.specs.Window.{allowed, number_at}
use Rattle.memory.specs.Address.{address_of}
use Rattle.memory.specs.Move.{received as when_loaded}
use Rattle.execute.specs.Execute.{executed_of}
use Rattle.saved.specs.File.{Held}
use Rattle.saved.specs.Save.{saving}
use Rattle.saved.specs.Load.{loading}
use Rattle.demands.specs.Written.{wrote, MarksAfter}

-- ---- a register instruction that works element by element
-- what element i receives of the entry values, and what it records (whatever the marks)
abbrev pub receives : Instruction → ℕ → State → ℕ → Out
receives ins scalar s i = received ins scalar i (begun (marked s no_marks))

-- what VAER gets of the elements below n: the bits of the types, and Vc's
unfoldable pub recorded_below : ℕ → Instruction → ℕ → State → ℕ
recorded_below zero ins scalar s = 0
recorded_below (suc n) ins scalar s =
    bit_or (recorded_below n ins scalar s)
    (pick (operated ins s.control n) (notes (register_bit (writes_mask ins) ins.vc.0) (receives ins scalar s n).types) 0)

-- what all its elements record
abbrev pub recorded_by : Instruction → ℕ → State → ℕ
recorded_by ins scalar s = recorded_below s.control.vlr ins scalar s

pub record ElementByElement (ins : Instruction) (scalar : ℕ) (s after : State) : Type 0 where
  pub count : length after.elements ≡ 1024
  -- of Vc the operated elements hold what they receive, unless the work writes mask bits; every other element of every register is as it was
  pub elements : (r i : ℕ) → r < 16 → i < 64
      → at after.elements r i
      ≡ pick (not (writes_mask ins) && eqb r ins.vc.0 && operated ins s.control i) (receives ins scalar s i).value (at s.elements r i)
  -- the operated mask bits of a compare hold what they receive; every other mask bit is as it was
  pub mask : (i : ℕ)
      → bit after.control.vmr i
      ≡ pick (writes_mask ins && operated ins s.control i) (eqb ((receives ins scalar s i).value % 2) 1) (bit s.control.vmr i)
  pub vlr : after.control.vlr ≡ s.control.vlr
  pub vcr : after.control.vcr ≡ s.control.vcr
  -- VAER is the or of what was there and of what the elements recorded
  pub vaer : after.control.vaer ≡ bit_or s.control.vaer (recorded_by ins scalar s)
  -- and if that is anything, VEN is cleared and AEX set (a VPSR in range has no other bit)
  pub vpsr : after.control.vpsr ≡ pick (eqb (recorded_by ins scalar s) 0) s.control.vpsr 0x80

-- ---- IOTA
pub record Counted (ins : Instruction) (scalar : ℕ) (s after : State) : Type 0 where
  pub count : length after.elements ≡ 1024
  -- VCR is the number of matching mask bits below VLR
  pub vcr : after.control.vcr ≡ matching s.control.vmr ins.mtf s.control.vlr
  -- element e of Vc, of the first VCR, gets i times stride modulo 2^32, where mask bit i is the one that matches after e others; its high half is as it was
  pub counted : (e : ℕ) → e < after.control.vcr
      → (i : ℕ) × (i < s.control.vlr) × (matches s.control.vmr ins.mtf i ≡ true) × (matching s.control.vmr ins.mtf i ≡ e)
      × (at after.elements ins.vc.0 e ≡ with_low (at s.elements ins.vc.0 e) (i * low scalar % 2 ^ 32))
  -- every other element of every register is as it was, and so are the other control numbers: IOTA records nothing
  pub others : (r e : ℕ) → r < 16 → e < 64 → (r ≡ ins.vc.0 → after.control.vcr ≤ e) → at after.elements r e ≡ at s.elements r e
  pub vlr : after.control.vlr ≡ s.control.vlr
  pub vmr : after.control.vmr ≡ s.control.vmr
  pub vaer : after.control.vaer ≡ s.control.vaer
  pub vpsr : after.control.vpsr ≡ s.control.vpsr

-- ---- memory: a window at an origin
-- how many bytes an element has there
abbrev pub bytes_each : Instruction → ℕ
bytes_each ins = size_of (is_quadword ins.work)

module _ (ins : Instruction) (base stride : ℕ) (s : State) (origin : ℕ) where
  -- the place of element i in the window
  abbrev pub place_in : ℕ → ℕ
  place_in i = address_of ins base stride s.elements i - origin

  -- byte k of the window is none of element i's
  abbrev pub Misses : ℕ → ℕ → Type 0
  Misses i k = (k < place_in i) ⊎ (place_in i + bytes_each ins ≤ k)

  -- element i is aligned, and lies in a window of `size` bytes
  pub record Inside (size i : ℕ) : Type 0 where
    pub aligned : address_of ins base stride s.elements i % bytes_each ins ≡ 0
    pub from : origin ≤ address_of ins base stride s.elements i
    pub to : place_in i + bytes_each ins ≤ size

  pub record Loaded (w w' : List ℕ) (after : State) : Type 0 where
    pub count : length after.elements ≡ 1024
    -- of Vc the operated elements hold what stands at their place; every other element of every register is as it was
    pub elements : (r i : ℕ) → r < 16 → i < 64
        → at after.elements r i
        ≡ pick (eqb r ins.vc.0 && operated ins s.control i)
        (when_loaded (is_quadword ins.work) (at s.elements r i) (number_at (bytes_each ins) w (place_in i)))
        (at s.elements r i)
    pub control : after.control ≡ s.control
    pub window : w' ≡ w

  pub record Stored (w w' : List ℕ) (after : State) : Type 0 where
    -- the operated elements stand at their places: byte k of element i, unless a later operated element has it ("so the highest wins")
    pub bytes : (i k : ℕ) → operated ins s.control i ≡ true → k < bytes_each ins
        → ((j : ℕ) → i < j → operated ins s.control j ≡ true → Misses j (place_in i + k))
        → get_or w' (place_in i + k) 0 ≡ at s.elements ins.vc.0 i / 256 ^ k % 256
    -- every other byte of the window is as it was, and so is the state
    pub others : (k : ℕ) → ((i : ℕ) → operated ins s.control i ≡ true → Misses i k) → get_or w' k 0 ≡ get_or w k 0
    pub length : length w' ≡ length w
    pub state : after ≡ s

-- ---- one instruction, alone and not in a queue
-- what has to hold of it: the state is in range, the processor enabled, and opcode and control word are those of the instruction `ins`; of a memory
-- instruction also, the window is allowed, and each operated element is aligned and lies in it
pub record Accepts (s : State) (opcode cntrl base stride : ℕ) (w : List ℕ) (origin : ℕ) (ins : Instruction) : Type 0 where
  pub ranged : in_range s.control ≡ true
  pub on : enabled s.control ≡ true
  pub says : decoded_of true false 0 opcode cntrl ≡ Ok ins
  pub window : is_memory ins.work ≡ true → allowed (length w) origin ≡ true
  pub inside : is_memory ins.work ≡ true → (i : ℕ) → operated ins s.control i ≡ true → Inside ins base stride s origin (length w) i

-- what it leaves, by the four kinds of instruction: a register instruction leaves the window as it was
pub record Leaves (ins : Instruction) (scalar base stride : ℕ) (s : State) (w : List ℕ) (origin : ℕ) (after : State) (w' : List ℕ) : Type 0 where
  pub elementwise : is_memory ins.work ≡ false → in_one_step ins ≡ false → ElementByElement ins scalar s after × (w' ≡ w)
  pub iota : is_memory ins.work ≡ false → in_one_step ins ≡ true → Counted ins scalar s after × (w' ≡ w)
  pub loads : is_memory ins.work ≡ true → is_store ins.work ≡ false → Loaded ins base stride s origin w w' after
  pub stores : is_memory ins.work ≡ true → is_store ins.work ≡ true → Stored ins base stride s origin w w' after

pub record OneInstruction (b : Marked) (opcode cntrl scalar base stride : ℕ) (w : List ℕ) (origin : ℕ) : Type 0 where
  -- it is done exactly when this holds of some instruction
  pub done : (is_done (executed_of b opcode cntrl scalar base stride w origin).answer ≡ true)
      ↔ ((ins : Instruction) × Accepts b.state opcode cntrl base stride w origin ins)
  -- and then it gives 0 with 0 beside it, and leaves this, of a state of 1,024 elements and of sixteen marks
  pub gives : (ins : Instruction) → Accepts b.state opcode cntrl base stride w origin ins
      → (executed_of b opcode cntrl scalar base stride w origin).answer ≡ Ok 0
  pub leaves : length b.state.elements ≡ 1024 → (ins : Instruction) → Accepts b.state opcode cntrl base stride w origin ins
      → Leaves ins scalar base stride b.state w origin (executed_of b opcode cntrl scalar base stride w origin).left.0.state
      (executed_of b opcode cntrl scalar base stride w origin).left.1
  pub marks : length b.state.elements ≡ 1024 → length b.marks ≡ 16 → (ins : Instruction) → Accepts b.state opcode cntrl base stride w origin ins
      → MarksAfter ins b.state.control b.marks (executed_of b opcode cntrl scalar base stride w origin).left.0.marks
  -- the elements that it did not write are as they were
  pub kept : length b.state.elements ≡ 1024 → (ins : Instruction) → Accepts b.state opcode cntrl base stride w origin ins
      → (r i : ℕ) → r < 16 → i < 64 → wrote ins b.state.control r i ≡ false
      → at (executed_of b opcode cntrl scalar base stride w origin).left.0.state.elements r i ≡ at b.state.elements r i

-- ---- Document 01, "Saved state and readings": saving and loading, into bytes with room for a file and over any state of 1,024 elements
-- saving a state that the machine can hold is done, and loading the bytes that it wrote gives that state
abbrev pub LoadsAgain : State → Type 0
LoadsAgain s =
    Held s → (old : State) (room : List ℕ) → length old.elements ≡ 1024 → 16464 ≤ length room
    → ((saving s room).answer ≡ Ok 0) × (loading (take 16464 (saving s room).left) old ≡ outcome (Ok 0) s)

-- and a file that loads is the one its state would save
abbrev pub SavesAgain : List ℕ → Type 0
SavesAgain file =
    Bytes file → (old s : State) (room : List ℕ) → length old.elements ≡ 1024 → loading file old ≡ outcome (Ok 0) s → 16464 ≤ length room
    → saving s room ≡ outcome (Ok 0) (file ++ drop 16464 room)

-- ---- DEMAND 2, whole
pub record DemandTwo : Type 0 where
  pub instruction : (b : Marked) (opcode cntrl scalar base stride : ℕ) (w : List ℕ) (origin : ℕ) → OneInstruction b opcode cntrl scalar base stride w origin
  pub load-of-save : (s : State) → LoadsAgain s
  pub save-of-load : (file : List ℕ) → SavesAgain file
