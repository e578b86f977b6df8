-- Further rows, document 01, "Queues and orders": queues straight through, faults of a list, and a list for each line of what a step touches.
use mathlib.Core.List.{List, [], ◌∷◌}
use Prim.Native.Nat.{ℕ}
use lib.ListN.{replicate}
use Rattle.touch.specs.Parts.{Queue, queue}
use Rattle.demands.specs.Calls.{run, run_order}
use Rattle.examples.proofs.Rows.{Row, v, enabled, masked, control, stopped, state, done, refuses, two}

-- a queue of one instruction, and the empty one
abbrev one : (opcode cntrl : ℕ) → Queue
one opcode cntrl = queue (opcode ∷ []) (cntrl ∷ []) (0 ∷ [])

abbrev none : Queue
none = queue [] [] []

-- so many times V0 = 2 + V0
abbrev adding : ℕ → Queue
adding n = queue (replicate n 0x81) (replicate n 0) (replicate n 2)

-- an add that overflows, V3 = V1 + V2, and a division by zero, V6 = V4 / V5, both with EXC
abbrev faulty : Queue
faulty = two 0x80 0x2123 0xAC 0x2456

abbrev pub queues : List Row
queues =
    -- "each instruction in queue order is done whole on what the last one left"
    done (run (adding 5)) (state (v 0 0 1 ∷ []) (enabled 1)) (state (v 0 0 11 ∷ []) (enabled 1))
    -- "more than 16 in a queue" gets 8; 16 do not, and so come to the next test, 3
    ∷ refuses (run (adding 17)) (state (v 0 0 1 ∷ []) (stopped 1 0)) 8 0
    ∷ refuses (run (adding 16)) (state (v 0 0 1 ∷ []) (stopped 1 0)) 3 0
    -- a compare's bit is the mask of the next, V3 = V1 + V2 where V1 is less: it is in element 0
    ∷ done (run (two 0xC0 0x0122 0x80 0xC123)) (state (v 1 1 5 ∷ v 2 0 5 ∷ v 2 1 5 ∷ v 3 1 7 ∷ []) (enabled 2))
    (state (v 1 1 5 ∷ v 2 0 5 ∷ v 2 1 5 ∷ v 3 0 5 ∷ v 3 1 7 ∷ []) (masked 2 1))
    -- scalars: V3 = 5 + V2, V4 = 6 + V3
    ∷ done (run (queue (0x81 ∷ 0x81 ∷ []) (0x0023 ∷ 0x0034 ∷ []) (5 ∷ 6 ∷ []))) (state (v 2 0 1 ∷ []) (enabled 1))
    (state (v 2 0 1 ∷ v 3 0 6 ∷ v 4 0 12 ∷ []) (enabled 1))
    -- "VEN and AEX change only at its end .. if anything was recorded in this run": the second is done too; "a second call gets 3"
    ∷ done (run faulty) (state (v 1 0 0x7FFF_FFFF ∷ v 2 0 1 ∷ v 4 0 0x4080 ∷ []) (enabled 1))
    (state (v 1 0 0x7FFF_FFFF ∷ v 2 0 1 ∷ v 3 0 0x8000_0000 ∷ v 4 0 0x4080 ∷ v 6 0 0x8002 ∷ []) (stopped 1 0x0048_0022))
    ∷ refuses (run faulty) (state [] (stopped 1 0x0048_0022)) 3 0
    -- VAER and AEX that were set already stop nothing
    ∷ done (run (adding 1)) (state (v 0 0 1 ∷ []) (control 1 0 0 0x0001_0001 0x81)) (state (v 0 0 3 ∷ []) (control 1 0 0 0x0001_0001 0x81))
    -- "An empty queue with VEN set, and with an empty list where one is given, is done and changes nothing"
    ∷ done (run none) (state [] (enabled 1)) (state [] (enabled 1))
    ∷ done (run_order none []) (state [] (enabled 1)) (state [] (enabled 1))
    ∷ refuses (run none) (state [] (stopped 1 0)) 3 0
    ∷ refuses (run_order none (0 ∷ [])) (state [] (enabled 1)) 9 0
    ∷ []

-- a list for V1 = V1 + V1, at a length
abbrev doubles : (vlr : ℕ) → List ℕ → Row
doubles vlr list = done (run_order (one 0x80 0x0111) list) (state [] (enabled vlr)) (state [] (enabled vlr))

abbrev refuses_list : (vlr : ℕ) → Queue → List ℕ → (place : ℕ) → Row
refuses_list vlr q list place = refuses (run_order q list) (state [] (enabled vlr)) 9 place

abbrev pub lists : List Row
lists =
    -- an instruction's own steps are bound to no order
    doubles 2 (0 ∷ 1 ∷ [])
    ∷ doubles 2 (1 ∷ 0 ∷ [])
    -- no step: an element at VLR, an instruction past the last
    ∷ refuses_list 2 (one 0x80 0x0111) (0 ∷ 2 ∷ 1 ∷ []) 1
    ∷ refuses_list 2 (one 0x80 0x0111) (0 ∷ 1 ∷ 64 ∷ []) 2
    -- a repeat, steps missing, and no list at all
    ∷ refuses_list 2 (one 0x80 0x0111) (1 ∷ 1 ∷ 0 ∷ []) 1
    ∷ refuses_list 2 (one 0x80 0x0111) (1 ∷ []) 1
    ∷ refuses_list 2 (one 0x80 0x0111) [] 0
    -- "IOTA is one step, element 0, even at VLR 0"; another instruction then has none
    ∷ done (run_order (one 0xED 0x4003) (0 ∷ [])) (state [] (control 0 0 9 0 1)) (state [] (control 0 0 0 0 1))
    ∷ refuses_list 0 (one 0xED 0x4003) [] 0
    ∷ refuses_list 2 (one 0xED 0x4003) (0 ∷ 1 ∷ []) 1
    ∷ doubles 0 []
    ∷ refuses_list 0 (one 0x80 0x0111) (0 ∷ []) 0
    -- "VAER and the bit beside the state gather by or and bind no order": the add that overflows and the division by zero, turned about
    ∷ done (run_order faulty (64 ∷ 0 ∷ [])) (state (v 1 0 0x7FFF_FFFF ∷ v 2 0 1 ∷ v 4 0 0x4080 ∷ []) (enabled 1))
    (state (v 1 0 0x7FFF_FFFF ∷ v 2 0 1 ∷ v 3 0 0x8000_0000 ∷ v 4 0 0x4080 ∷ v 6 0 0x8002 ∷ []) (stopped 1 0x0048_0022))
    ∷ []

-- ---- what a step touches. Two instructions at VLR 1, and the list 64, 0: the second comes first. Where all is zero, a permitted list leaves all as
-- it was (a compare here asks for "not equal", an IOTA for ones of the mask)
abbrev bound : (opcode cntrl opcode' cntrl' : ℕ) → Row
bound opcode cntrl opcode' cntrl' = refuses_list 1 (two opcode cntrl opcode' cntrl') (64 ∷ 0 ∷ []) 0

abbrev free : (opcode cntrl opcode' cntrl' : ℕ) → Row
free opcode cntrl opcode' cntrl' =
    done (run_order (two opcode cntrl opcode' cntrl') (64 ∷ 0 ∷ [])) (state [] (enabled 1)) (state [] (enabled 1))

abbrev pub touches : List Row
touches =
    -- "reads Vb": V3 = V1 + V2, then V2 = V4 + V5; in the scalar form too, and for convert, compare and merge
    bound 0x80 0x0123 0x80 0x0452
    ∷ bound 0x81 0x0123 0x80 0x0452
    ∷ bound 0xEC 0x0123 0x80 0x0452
    ∷ bound 0xC0 0x0125 0x80 0x0452
    ∷ bound 0xEE 0x0123 0x80 0x0452
    ∷ bound 0xEF 0x0123 0x80 0x0452
    -- "reads Va in vector forms": V3 = V1 + V2, then V1 = V4 + V5; compare, merge and divide
    ∷ bound 0x80 0x0123 0x80 0x0451
    ∷ bound 0xC4 0x0125 0x80 0x0451
    ∷ bound 0xEE 0x0123 0x80 0x0451
    ∷ bound 0xAC 0x0123 0x80 0x0451
    -- a scalar form does not read Va
    ∷ free 0x81 0x0123 0x80 0x0451
    ∷ free 0xC1 0x0125 0x80 0x0451
    ∷ free 0xEF 0x0123 0x80 0x0451
    -- "except convert": V3 = the F of V2, by conversion 1, then V1 = V4 + V5. A list that is permitted only since convert does not read Va
    ∷ done (run_order (two 0xEC 0x0123 0x80 0x0451) (64 ∷ 0 ∷ [])) (state (v 2 0 3 ∷ v 4 0 1 ∷ v 5 0 2 ∷ []) (enabled 1))
    (state (v 1 0 3 ∷ v 2 0 3 ∷ v 3 0 0x4140 ∷ v 4 0 1 ∷ v 5 0 2 ∷ []) (enabled 1))
    -- "reads VMR<i> if MOE is set or it is merge": after a compare; with no MOE it does not. And a compare after a step that reads the mask
    ∷ bound 0xC0 0x0125 0x80 0xC678
    ∷ bound 0xC0 0x0125 0xEE 0x4678
    ∷ bound 0xC0 0x0125 0xEF 0x4678
    ∷ free 0xC0 0x0125 0x80 0x4678
    ∷ bound 0x80 0xC678 0xC0 0x0125
    ∷ bound 0xEE 0x4678 0xC0 0x0125
    ∷ free 0x80 0x4678 0xC0 0x0125
    -- "writes Vc": V3 = V1 + V2, then V6 = V4 + V3, V6 = V3 + V4, V3 = V4 + V5
    ∷ bound 0x80 0x0123 0x80 0x0436
    ∷ bound 0x80 0x0123 0x80 0x0346
    ∷ bound 0x80 0x0123 0x80 0x0453
    -- "or VMR<i> for compare", and then no register: two compares; the relation, 5, is no V5 that it writes
    ∷ bound 0xC0 0x0125 0xC4 0x0675
    ∷ free 0xC0 0x0125 0x80 0x0568
    ∷ free 0xC0 0x0125 0x80 0x0675
    -- "at least one writes it": two that read V1, V2 and the mask
    ∷ free 0x80 0xC123 0x80 0xC126
    -- "IOTA instead reads mask bits": after a compare and before it; all that are below VLR, so not after the first of two
    ∷ bound 0xC0 0x0125 0xED 0x4006
    ∷ bound 0xED 0x4006 0xC0 0x0125
    ∷ refuses_list 2 (two 0xC0 0x0125 0xED 0x4006) (0 ∷ 64 ∷ 1 ∷ []) 1
    ∷ free 0xED 0x4006 0x80 0xC123
    -- "and no register": its fields name V1 and V2, and V1 = V4 + V5, V2 = V4 + V5 come first
    ∷ free 0xED 0x4126 0x80 0x0451
    ∷ free 0xED 0x4126 0x80 0x0452
    -- "writes Vc elements below VLR", whether or not a mask bit matches: V6, then V8 = V6 + V7, V8 = V7 + V6, V6 = V7 + V8; element 1 at VLR 2
    ∷ bound 0xED 0x4006 0x80 0x0678
    ∷ bound 0xED 0x4006 0x80 0x0768
    ∷ bound 0xED 0x4006 0x80 0x0786
    ∷ bound 0x80 0x0678 0xED 0x4006
    ∷ refuses_list 2 (two 0xED 0x4006 0x80 0x0678) (65 ∷ 0 ∷ 64 ∷ []) 0
    ∷ free 0xED 0x4006 0x80 0x0789
    -- "and writes VCR": two IOTAs, at VLR 0 too
    ∷ bound 0xED 0x4006 0xED 0x4007
    ∷ refuses_list 0 (two 0xED 0x4006 0xED 0x4007) (64 ∷ 0 ∷ []) 0
    -- "masked or not": V3 = V1 + V2 where no mask bit matches, then V1 = V4 + V5
    ∷ bound 0x80 0xC123 0x80 0x0451
    -- "A step touches element i": V3 = V1 + V2, then V6 = V3 + V4. Element 0 of the second follows that of the first alone, and so does its mask bit
    ∷ done (run_order (two 0x80 0x0123 0x80 0x0346) (0 ∷ 64 ∷ 1 ∷ 65 ∷ [])) (state (v 1 0 1 ∷ v 1 1 2 ∷ []) (enabled 2))
    (state (v 1 0 1 ∷ v 1 1 2 ∷ v 3 0 1 ∷ v 3 1 2 ∷ v 6 0 1 ∷ v 6 1 2 ∷ []) (enabled 2))
    ∷ refuses_list 2 (two 0x80 0x0123 0x80 0x0346) (0 ∷ 65 ∷ 1 ∷ 64 ∷ []) 1
    ∷ done (run_order (two 0xC0 0x0125 0x80 0xC678) (0 ∷ 64 ∷ 1 ∷ 65 ∷ [])) (state [] (enabled 2)) (state [] (enabled 2))
    ∷ refuses_list 2 (two 0xC0 0x0125 0x80 0xC678) (0 ∷ 65 ∷ 1 ∷ 64 ∷ []) 1
    ∷ []
