-- Further rows, document 01, "Numbers given back": each number at least once with what stands beside it, and the order in which they are tested.
use mathlib.Core.List.{List, [], ◌∷◌}
use Prim.Native.Nat.{ℕ}
use lib.ListN.{replicate}
use Rattle.touch.specs.Parts.{Queue, queue}
use Rattle.demands.specs.Calls.{read_vmr_high, write_vcr, run, run_order, save, load, reading}
use Rattle.examples.proofs.Rows.{Row, v, enabled, control, state, state_and, done, reads, refuses, operate, move, two}

-- four adds, but for the one at 3
abbrev fourth : (opcode cntrl : ℕ) → Queue
fourth opcode cntrl = queue (0x80 ∷ 0x80 ∷ 0x80 ∷ opcode ∷ []) (0 ∷ 0 ∷ 0 ∷ cntrl ∷ []) (0 ∷ 0 ∷ 0 ∷ 0 ∷ [])

abbrev pub numbers : List Row
numbers =
    -- 0 done: what was read, else 0
    reads read_vmr_high (state [] (control 0 0x89AB_CDEF_0123_4567 0 0 1)) 0x89AB_CDEF
    ∷ done (operate 0x80 0 0) (state (v 0 0 4 ∷ []) (enabled 1)) (state (v 0 0 8 ∷ []) (enabled 1))
    -- 1 reserved opcode: queue position, 0 for one instruction, whatever the control word is
    ∷ refuses (operate 0 0xFFFF 0) (state [] (enabled 1)) 1 0
    ∷ refuses (run (fourth 0xA9 0x000B)) (state [] (enabled 1)) 1 3
    -- 2 reserved control word: queue position
    ∷ refuses (operate 0xEC 0x2000 0) (state [] (enabled 1)) 2 0
    ∷ refuses (run (fourth 0xC0 0x0003)) (state [] (enabled 1)) 2 3
    -- 3 processor disabled
    ∷ refuses (operate 0x80 0 0) (state (v 0 0 4 ∷ []) (control 1 0 0 0 0)) 3 0
    -- 4 window not allowed
    ∷ refuses (move 0x34 0 0 0 0x104) (state_and (v 0 0 4 ∷ []) (enabled 1) (replicate 16 7)) 4 0
    -- 5 misaligned, 6 outside window: element
    ∷ refuses (move 0x34 0 0x100 2 0x100) (state_and (v 0 0 4 ∷ []) (enabled 3) (replicate 16 7)) 5 1
    ∷ refuses (move 0x34 0 0x100 8 0x100) (state_and (v 0 0 4 ∷ []) (enabled 3) (replicate 16 7)) 6 2
    -- 7 memory opcode in a queue: queue position; of each memory opcode
    ∷ refuses (run (fourth 0x34 0)) (state [] (enabled 1)) 7 3
    ∷ refuses (run (fourth 0x35 1)) (state [] (enabled 1)) 7 3
    ∷ refuses (run (fourth 0x36 0)) (state [] (enabled 1)) 7 3
    ∷ refuses (run (fourth 0x37 1)) (state [] (enabled 1)) 7 3
    ∷ refuses (run (fourth 0x9C 0)) (state [] (enabled 1)) 7 3
    ∷ refuses (run (fourth 0x9D 0)) (state [] (enabled 1)) 7 3
    ∷ refuses (run (fourth 0x9E 0)) (state [] (enabled 1)) 7 3
    ∷ refuses (run (fourth 0x9F 0)) (state [] (enabled 1)) 7 3
    -- 8 more than 16 in a queue (a row of the queues'), or its parts of unequal length
    ∷ refuses (run (queue (0x80 ∷ []) [] (0 ∷ []))) (state [] (enabled 1)) 8 0
    ∷ refuses (run (queue (0x80 ∷ []) (0 ∷ []) [])) (state [] (enabled 1)) 8 0
    ∷ refuses (run (queue [] (0 ∷ []) [])) (state [] (enabled 1)) 8 0
    ∷ refuses (run (queue [] [] (0 ∷ []))) (state [] (enabled 1)) 8 0
    -- 9 order not permitted: list position
    ∷ refuses (run_order (fourth 0x80 0) (0 ∷ 64 ∷ 192 ∷ 128 ∷ [])) (state (v 0 0 1 ∷ []) (enabled 1)) 9 2
    -- 10 bad saved file: record number. 40 bytes have no room for record 2; an empty file has no record 0
    ∷ refuses save (state_and (v 0 0 4 ∷ []) (enabled 1) (replicate 40 7)) 10 2
    ∷ refuses (load []) (state (v 0 0 4 ∷ []) (enabled 1)) 10 0
    -- 11 control value refused
    ∷ refuses (write_vcr 0x1_0000_0001) (state [] (enabled 1)) 11 0
    -- 12 state out of range
    ∷ refuses (operate 0x80 0 0) (state (v 0 0 4 ∷ []) (enabled 65)) 12 0
    -- 13 no such field
    ∷ refuses (reading 0 0 5) (state (v 0 0 4 ∷ []) (enabled 1)) 13 0
    ∷ []

abbrev pub orders : List Row
orders =
    -- "Order for one instruction: 12, 1, 3, 2, then for memory 4, 5 or 6"
    refuses (operate 0xA9 0 0) (state [] (control 65 0 0 0 1)) 12 0
    ∷ refuses (operate 0xA9 0 0) (state [] (control 1 0 0 0 0)) 1 0
    ∷ refuses (operate 0xC0 3 0) (state [] (control 1 0 0 0 0)) 3 0
    ∷ refuses (move 0x35 0x0022 1 0 4) (state [] (enabled 1)) 2 0
    ∷ refuses (move 0x34 0 1 0 4) (state [] (enabled 1)) 4 0
    -- "For a queue: 12, 8, then 3, then per position from 0: 1, 7, 2 ..; then 9"
    ∷ refuses (run (queue (0xA9 ∷ []) [] [])) (state [] (control 65 0 0 0 1)) 12 0
    ∷ refuses (run (queue (0xA9 ∷ []) [] [])) (state [] (control 1 0 0 0 0)) 8 0
    ∷ refuses (run (two 0xA9 0 0x80 0)) (state [] (control 1 0 0 0 0)) 3 0
    ∷ refuses (run (two 0x80 0 0x35 0x0022)) (state [] (enabled 1)) 7 1
    ∷ refuses (run (two 0xC0 3 0xA9 0)) (state [] (enabled 1)) 2 0
    ∷ refuses (run (two 0x34 0 0xA9 0)) (state [] (enabled 1)) 7 0
    ∷ refuses (run (two 0xA9 0 0x34 0)) (state [] (enabled 1)) 1 0
    ∷ refuses (run_order (two 0x80 0 0xA9 0) (99 ∷ [])) (state [] (enabled 1)) 1 1
    ∷ refuses (run_order (two 0x80 0 0x80 0) (99 ∷ [])) (state [] (control 1 0 0 0 0)) 3 0
    -- "Readings: 12, 13"; "Saving tests 12 first"; neither gives 3
    ∷ refuses (reading 0 0 5) (state [] (control 65 0 0 0 1)) 12 0
    ∷ refuses (reading 0 0 5) (state [] (control 1 0 0 0 0)) 13 0
    ∷ refuses save (state [] (control 65 0 0 0 1)) 12 0
    ∷ refuses save (state [] (control 1 0 0 0 0)) 10 0
    ∷ []
