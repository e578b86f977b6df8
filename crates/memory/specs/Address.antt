-- Document 01, "Memory": the address of each element, and the tests of the operated ones.
use Rattle.std.specs.Prelude.{ℕ, ◌+◌, ◌*◌, ◌%◌, ◌^◌, Bool, ◌&&◌, List, ◌==◌, nat_le, Result, Ok, Err, ⊤}
use Rattle.numbers.specs.Choice.{pick}
use Rattle.numbers.specs.Halves.{low}
use Rattle.state.specs.Elements.{at}
use Rattle.opcodes.specs.declared.Instruction.{Instruction}
use Rattle.state.specs.declared.answer.Refusal.{Refusal}
use Rattle.state.specs.declared.answer.Refusal.TheVariants.{Misaligned, OutsideWindow}
use Rattle.numbers.specs.Rising.{rising}

-- base + i times stride, modulo 2^32
abbrev pub strided : ℕ → ℕ → ℕ → ℕ
strided base stride i = (base + i * stride) % 2 ^ 32

-- base + Vb[i]<31:0>, modulo 2^32
abbrev pub offset_by : ℕ → List ℕ → ℕ → ℕ → ℕ
offset_by base l vb i = (base + low (at l vb i)) % 2 ^ 32

-- the address of element i: by offsets from Vb, or by a stride
abbrev pub address_by : Bool → ℕ → ℕ → List ℕ → ℕ → ℕ → ℕ
address_by offsets base stride l vb = pick offsets (offset_by base l vb) (strided base stride)

abbrev pub address_of : Instruction → ℕ → ℕ → List ℕ → ℕ → ℕ
address_of ins base stride l = address_by ins.scalar base stride l ins.vb.0

-- what makes an element bad
pub data Fault : Type 0 where
  misaligned : Fault
  outside : Fault

-- the test of one element: it is fine, or what makes it bad
abbrev pub Test : Type 0
Test = Result ⊤ Fault

-- alignment is tested before the window
abbrev pub found : Bool → Bool → Test
found aligned inside = pick aligned (pick inside (Ok tt) (Err outside)) (Err misaligned)

-- the test of one element of size bytes, in a window that goes from origin to end
unfoldable pub test_of : ℕ → ℕ → ℕ → ℕ → Test
test_of size origin end address = found (address % size == 0) (nat_le origin address && nat_le (address + size) end)

-- the answer for a bad element
abbrev pub bad_element : Fault → ℕ → Refusal
bad_element misaligned element = Misaligned element
bad_element outside element = OutsideWindow element

-- what the tests of several say: none is bad, or the answer for the lowest that is
abbrev pub Search : Type 0
Search = Result ⊤ Refusal

-- what the test of element i says of the whole
abbrev pub saying : ℕ → Test → Search
saying i (Ok _) = Ok tt
saying i (Err f) = Err (bad_element f i)

-- the first unless it is fine
abbrev pub or_else : Search → Search → Search
or_else (Ok _) b = b
or_else (Err refused) b = Err refused

-- only operated elements are looked at
abbrev pub verdict : Bool → Test → Test
verdict chosen t = pick chosen t (Ok tt)

-- the test of element i after those of the elements below it: a bad element that was found stays
unfoldable pub test_step : (ℕ → Bool) → (ℕ → Test) → ℕ → Search → Search
test_step chosen tests i a = or_else a (saying i (verdict (chosen i) (tests i)))

-- the lowest bad element of those below n
abbrev pub tested : (ℕ → Bool) → (ℕ → Test) → ℕ → Search
tested chosen tests n = rising (test_step chosen tests) n (Ok tt)
