-- Document 01, "What an element receives": IOTA. For each i < VLR, rising, with VMR<i> = MTF, the next element of Vc, from 0, gets i times stride mod 2^32.
use Rattle.std.specs.Prelude.{Bool, List, ℕ, zero, suc, ◌+◌, ◌*◌, ◌%◌, ◌^◌, set}
use Rattle.numbers.specs.Choice.{pick}
use Rattle.numbers.specs.Halves.{low, with_low}
use Rattle.state.specs.declared.Control.{Control}
use Rattle.state.specs.State.{place_of, with_vcr}
use Rattle.opcodes.specs.declared.Instruction.{Instruction}
use Rattle.machine.specs.Run.{Run, run, added, joined}
use Rattle.state.specs.Elements.{at, matches}
use Rattle.state.specs.Marks.{first_elements}

-- the number of matching mask bits below n
unfoldable pub matching : ℕ → Bool → ℕ → ℕ
matching vmr mtf zero = 0
matching vmr mtf (suc n) = matching vmr mtf n + pick (matches vmr mtf n) 1 0

-- the elements with <31:0> of element e of vc replaced; <63:32> are left as they were
abbrev pub put : ℕ → ℕ → ℕ → List ℕ → List ℕ
put vc e value l = set l (place_of vc e) (with_low (at l vc e) value)

-- the turn of mask bit i, where e is the next element
unfoldable pub turned : ℕ → Bool → ℕ → ℕ → ℕ → ℕ → List ℕ → List ℕ
turned vmr mtf stride vc i e l = pick (matches vmr mtf i) (put vc e (i * stride % 2 ^ 32) l) l

-- the walk over the first n mask bits, rising: the next element is the one at the number of matching bits passed
unfoldable pub walked : ℕ → Bool → ℕ → ℕ → ℕ → List ℕ → List ℕ
walked vmr mtf stride vc zero l = l
walked vmr mtf stride vc (suc n) l = turned vmr mtf stride vc n (matching vmr mtf n) (walked vmr mtf stride vc n l)

-- the new VCR
abbrev pub count_of : Instruction → Control → ℕ
count_of ins c = matching c.vmr ins.mtf c.vlr

-- VCR is the number of matching mask bits below VLR; elements from VCR on keep. Document 02, Q-3: and "the first VCR" are marked
unfoldable pub iota_step : Instruction → ℕ → Run → Run
iota_step ins stride r =
    run (walked r.control.vmr ins.mtf (low stride) ins.vc.0 r.control.vlr r.elements)
    (with_vcr r.control (count_of ins r.control))
    (joined r.gathered (added 0 ins.vc.0 (first_elements (count_of ins r.control))))
