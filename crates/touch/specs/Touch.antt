-- Document 01, "Queues and orders": the steps of a queue, what a step touches, and which steps it must follow.
use Rattle.std.specs.Prelude.{Bool, false, ◌&&◌, ◌||◌, List, [], ◌∷◌, ◌++◌, ℕ, zero, suc, ◌+◌, ◌*◌, ltb}
use Rattle.numbers.specs.Choice.{pick}
use Rattle.state.specs.State.{place_of}
use Rattle.opcodes.specs.declared.Instruction.{Instruction}
use Rattle.opcodes.specs.Opcodes.{writes_mask, in_one_step, reads_va, reads_vb, reads_mask}
use Rattle.machine.specs.Run.{Run}
use Rattle.machine.specs.Instruction.{step_count, step_of}
use Rattle.touch.specs.Parts.{Queue, size, instruction_at, scalar_at}
use Rattle.order.specs.Order.{has}
use Rattle.order.specs.Steps.{position, element, passing}

-- ---- steps: instruction position times 64 plus element, for elements below VLR, masked or not; IOTA is one step, element 0, even at VLR 0
unfoldable pub is_step : Queue → ℕ → ℕ → Bool
is_step q vlr x = ltb (position x) (size q) && ltb (element x) (step_count (instruction_at q (position x)) vlr)

-- the queue's steps, in the queue's order
unfoldable pub steps_of : Queue → ℕ → List ℕ
steps_of q vlr = passing (is_step q vlr) 0 (size q * 64)

-- what a step does
unfoldable pub act : Queue → ℕ → Run → Run
act q x r = step_of (instruction_at q (position x)) (scalar_at q (position x)) (element x) r

-- ---- places, by number: element i of register r, mask bit i, the count VCR
abbrev pub element_place : ℕ → ℕ → ℕ
element_place r i = place_of r i

abbrev pub mask_place : ℕ → ℕ
mask_place i = 1024 + i

abbrev pub count_place : ℕ
count_place = 1088

abbrev pub place_if : Bool → ℕ → List ℕ
place_if t p = pick t (p ∷ []) []

-- f at 0 to n - 1
unfoldable pub below : ℕ → (ℕ → ℕ) → List ℕ
below zero f = []
below (suc n) f = below n f ++ (f n ∷ [])

-- a step of element i reads Vb, reads Va in vector forms except convert, reads VMR<i> if MOE is set or it is merge
abbrev pub element_reads : Instruction → ℕ → List ℕ
element_reads ins i =
    place_if (reads_vb ins) (element_place ins.vb.0 i)
    ++ place_if (reads_va ins) (element_place ins.va.0 i)
    ++ place_if (reads_mask ins) (mask_place i)

-- it writes Vc, or VMR<i> for compare
abbrev pub written_place : Instruction → ℕ → ℕ
written_place ins i = pick (writes_mask ins) (mask_place i) (element_place ins.vc.0 i)

-- IOTA instead reads mask bits and no register
abbrev pub iota_reads : ℕ → List ℕ
iota_reads vlr = below vlr mask_place

-- and writes Vc elements below VLR, and VCR
abbrev pub iota_writes : Instruction → ℕ → List ℕ
iota_writes ins vlr = below vlr (element_place ins.vc.0) ++ (count_place ∷ [])

-- the places that a step reads, and those that it writes
unfoldable pub reads : Instruction → ℕ → ℕ → List ℕ
reads ins vlr i = pick (in_one_step ins) (iota_reads vlr) (element_reads ins i)

unfoldable pub writes : Instruction → ℕ → ℕ → List ℕ
writes ins vlr i = pick (in_one_step ins) (iota_writes ins vlr) (written_place ins i ∷ [])

-- the two lists have a place in common
unfoldable pub meet : List ℕ → List ℕ → Bool
meet [] ys = false
meet (x ∷ xs) ys = has x ys || meet xs ys

-- both touch (read or write) the same place, and at least one writes it
unfoldable pub conflict : List ℕ → List ℕ → List ℕ → List ℕ → Bool
conflict ra wa rb wb = meet wa wb || meet wa rb || meet ra wb

-- step b must follow step a: a is of an earlier instruction, and they conflict
unfoldable pub must_precede : Queue → ℕ → ℕ → ℕ → Bool
must_precede q vlr a b = ltb (position a) (position b) && conflict (reads_at a) (writes_at a) (reads_at b) (writes_at b)
  where
    reads_at : ℕ → List ℕ
    reads_at x = reads (instruction_at q (position x)) vlr (element x)

    writes_at : ℕ → List ℕ
    writes_at x = writes (instruction_at q (position x)) vlr (element x)
