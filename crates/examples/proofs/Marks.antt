-- Further rows, document 02, "Which elements were written" (Q-3). Every register's marks are A4 before, unless a row says otherwise.
use mathlib.Core.List.{List, [], ◌∷◌}
use lib.ListN.{replicate, set}
use Rattle.demands.specs.Calls.{run, run_order, clear_marks, write_vlr, write_vmr_low}
use Rattle.examples.proofs.Rows.{Row, v, enabled, masked, control, stopped, state, state_and, with, a4, a4_but, done, refuses, marks, marks_none}
use Rattle.examples.proofs.Rows.{operate, move, two}

-- one instruction
abbrev pub marks_one : List Row
marks_one =
    -- "operated elements for operate instructions": V3 = V1 + V2 at VLR 5 under the mask 13, elements 0, 1 and 4; "whether or not its contents changed": all
    -- are zero
    marks 3 0xB7 (operate 0x80 0xC123 0) (state [] (masked 5 0x13)) (state [] (masked 5 0x13))
    ∷ marks 3 0xAC (operate 0x80 0x8123 0) (state [] (masked 5 0x13)) (state [] (masked 5 0x13))
    ∷ marks 3 0xBF (operate 0x80 0x0123 0) (state [] (masked 5 0x13)) (state [] (masked 5 0x13))
    ∷ marks_none (operate 0x80 0x0123 0) (state [] (enabled 0)) (state [] (enabled 0))
    -- all 64 of the last register, and of the first
    ∷ marks 15 0xFFFF_FFFF_FFFF_FFFF (operate 0x80 0x012F 0) (state [] (enabled 64)) (state [] (enabled 64))
    ∷ marks 0 0xFFFF_FFFF_FFFF_FFFF (operate 0x80 0x0120 0) (state [] (enabled 64)) (state [] (enabled 64))
    -- an exception's result is a write: V3 = V1 / V2, by zero
    ∷ marks 3 0xA5 (operate 0xAC 0x2123 0) (state (v 1 0 0x4080 ∷ []) (enabled 1)) (state (v 1 0 0x4080 ∷ v 3 0 0x8002 ∷ []) (stopped 1 0x0008_0002))
    -- "none for compare", here greater or equal, 6, equal, 1, and less, 2: no word of V6, V1 or V2 is altered
    ∷ marks_none (operate 0xC0 0x0126 0) (state [] (enabled 3)) (state [] (masked 3 7))
    ∷ marks_none (operate 0xC0 0x0121 0) (state [] (enabled 3)) (state [] (masked 3 7))
    ∷ marks_none (operate 0xC4 0x0122 0) (state [] (masked 3 7)) (state [] (masked 3 0))
    -- "every element below VLR for merge", with MOE too, whatever MTF is
    ∷ marks 3 0xAF (operate 0xEE 0xC123 0) (state [] (masked 4 2)) (state [] (masked 4 2))
    ∷ marks 3 0xAF (operate 0xEE 0x8123 0) (state [] (masked 4 2)) (state [] (masked 4 2))
    -- "the first VCR for IOTA", the new count: 2 of the mask 12 at VLR 5, whatever VCR was; none; and 64
    ∷ marks 3 0xA7 (operate 0xED 0x4003 0) (state [] (control 5 0x12 60 0 1)) (state [] (control 5 0x12 2 0 1))
    ∷ marks_none (operate 0xED 0x4003 0) (state [] (control 4 0x10 60 0 1)) (state [] (control 4 0x10 0 0 1))
    ∷ marks_none (operate 0xED 0x0003 0) (state [] (control 0 0 9 0 1)) (state [] (control 0 0 0 0 1))
    ∷ marks 3 0xFFFF_FFFF_FFFF_FFFF (operate 0xED 0x0003 0) (state [] (enabled 64)) (state [] (control 64 0 64 0 1))
    -- loads and gathers the operated elements, stores and scatters none: VLR 2, element 1 alone
    ∷ marks 3 0xA6 (move 0x34 0xC003 0 4 0) (state_and [] (masked 2 2) (replicate 8 0)) (state_and [] (masked 2 2) (replicate 8 0))
    ∷ marks 3 0xA6 (move 0x35 0xC023 0 0 0) (state_and [] (masked 2 2) (replicate 8 0)) (state_and [] (masked 2 2) (replicate 8 0))
    ∷ marks_none (move 0x9C 0xC003 0 4 0) (state_and [] (masked 2 2) (replicate 8 0)) (state_and [] (masked 2 2) (replicate 8 0))
    ∷ marks_none (move 0x9D 0xC023 0 0 0) (state_and [] (masked 2 2) (replicate 8 0)) (state_and [] (masked 2 2) (replicate 8 0))
    -- "A refused call changes no mark": element 1 of a load lies outside the window, and element 0 does not
    ∷ refuses (move 0x34 0x0003 0 4 0) (state_and [] (enabled 2) (replicate 4 0)) 6 1
    ∷ []

-- queues, lists and the other calls; C0 0122 compares V1 < V2, which holds in element 0 alone
abbrev pub marks_many : List Row
marks_many =
    -- "an instruction keeps any marks it is handed and adds its own": of a queue, V3 then V4, and V3 twice
    done (run (two 0x80 0x0123 0x80 0x0124)) (with a4 (state [] (enabled 1))) (with (set (a4_but 3 0xA5) 4 0xA5) (state [] (enabled 1)))
    ∷ marks 3 0xA7 (run (two 0x80 0xC123 0x80 0x8123)) (state [] (masked 2 1)) (state [] (masked 2 1))
    -- the mask is that of the moment: V3 = V1 + V2 where V1 is less, in element 0
    ∷ marks 3 0xA5 (run (two 0xC0 0x0122 0x80 0xC123)) (state (v 2 0 5 ∷ []) (masked 2 2)) (state (v 2 0 5 ∷ v 3 0 5 ∷ []) (masked 2 1))
    -- "a permitted order leaves the same ones as the queue": steps 1, 65, 0 and 64
    ∷ marks 3 0xA5 (run_order (two 0xC0 0x0122 0x80 0xC123) (1 ∷ 65 ∷ 0 ∷ 64 ∷ [])) (state (v 2 0 5 ∷ []) (masked 2 2))
    (state (v 2 0 5 ∷ v 3 0 5 ∷ []) (masked 2 1))
    ∷ refuses (run_order (two 0xC0 0x0122 0x80 0xC123) (1 ∷ 64 ∷ 0 ∷ 65 ∷ [])) (state (v 2 0 5 ∷ []) (masked 2 2)) 9 1
    -- "Clearing is a call of its own"; control moves touch none, and in proofs/Readings.antt readings and saving none
    ∷ done clear_marks (with a4 (state (v 1 0 5 ∷ []) (enabled 1))) (with (replicate 16 0) (state (v 1 0 5 ∷ []) (enabled 1)))
    ∷ marks_none (write_vlr 3) (state [] (enabled 1)) (state [] (enabled 3))
    ∷ marks_none (write_vmr_low 5) (state [] (enabled 1)) (state [] (masked 1 5))
    ∷ []
