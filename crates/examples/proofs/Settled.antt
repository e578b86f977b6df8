-- The numbered examples of document 01 ("Settled examples"), under their numbers, and those of document 02's requests. Each starts with VEN 1 and
-- all that is not named zero; EXC is set unless the example says otherwise.
use mathlib.Core.List.{List, [], ◌∷◌, ◌++◌}
use Prim.Native.Nat.{ℕ}
use lib.ListN.{replicate}
use Rattle.touch.specs.Parts.{Queue}
use Rattle.demands.specs.Calls.{Lent, lent, run_order}
use Rattle.examples.proofs.Rows.{Row, Cell, v, enabled, masked, control, stopped, state, state_and, done, refuses, operate, move, becomes, gives, records, two}

-- 1's registers: V2 = 7FFFFFFF, 4, and V5 of these two and then 9
abbrev with-5 : (a b : ℕ) → List ℕ → Lent
with-5 a b numbers = lent (replicate 128 0 ++ (0x7FFFFFFF ∷ 4 ∷ replicate 190 0) ++ (a ∷ b ∷ replicate 62 9) ++ replicate 640 0) numbers [] [] 0 0

-- 11's window of four bytes, and a mask that chooses element 1
abbrev with-11 : List Cell → Lent
with-11 cells = state_and cells (masked 2 2) (1 ∷ 2 ∷ 3 ∷ 4 ∷ [])

-- 12's queue, V3 = V1+V2 and then V1 = V4+V5, and V1 and V3 beside V4 = 3, 4
abbrev queue-12 : Queue
queue-12 = two 0x80 0x2123 0x80 0x2451

abbrev with-12 : (a b c d : ℕ) → Lent
with-12 a b c d = state (v 1 0 a ∷ v 1 1 b ∷ v 3 0 c ∷ v 3 1 d ∷ v 4 0 3 ∷ v 4 1 4 ∷ []) (enabled 2)

abbrev numbered : List Row
numbered =
    -- 1. 81, 2025, scalar 1, VLR 2, V2 = 7FFFFFFF, 4, V5 all 9: V5 = 80000000, 5, then 9; VAER 00200020; VPSR 00000080
    done (operate 0x81 0x2025 1) (with-5 9 9 (enabled 2)) (with-5 0x80000000 5 (stopped 2 0x00200020))
    -- 2. multiply 80000000 by FFFFFFFF: 80000000, overflow
    ∷ records 0xA0 0x2123 0x80000000 0xFFFFFFFF 0x80000000 0x00080020
    -- 3. 0 minus 80000000: 80000000, overflow
    ∷ records 0x88 0x2123 0 0x80000000 0x80000000 0x00080020
    -- 4. F 4080 + 4080 = 4100
    ∷ gives 0x84 0x2123 0x4080 0x4080 0x4100
    -- 5. F FFFF7FFF + itself: 8008
    ∷ records 0x84 0x2123 0xFFFF7FFF 0xFFFF7FFF 0x8008 0x00080008
    -- 6. F 0080 times 4000: 0 without EXC, 8001 with
    ∷ gives 0xA4 0x0123 0x0080 0x4000 0
    ∷ records 0xA4 0x2123 0x0080 0x4000 0x8001 0x00080001
    -- 7. L to F of 16,777,217: 00014C80
    ∷ gives 0xEC 0x2123 0 16_777_217 0x00014C80
    -- 8. F 4120 to L: rounded 3, truncated 2. C120 truncated: FFFFFFFE
    ∷ gives 0xEC 0x2523 0 0x4120 3
    ∷ gives 0xEC 0x2423 0 0x4120 2
    ∷ gives 0xEC 0x2423 0 0xC120 0xFFFFFFFE
    -- 9. F 5000 to L: 80000000 with overflow; D000: 80000000 without
    ∷ records 0xEC 0x2523 0 0x5000 0x80000000 0x00080020
    ∷ records 0xEC 0x2423 0 0x5000 0x80000000 0x00080020
    ∷ gives 0xEC 0x2523 0 0xD000 0x80000000
    ∷ gives 0xEC 0x2423 0 0xD000 0x80000000
    -- 10. IOTA, VLR 4, VMR B, stride 8: MTF 1 gives 0, 8, 24, VCR 3; MTF 0 gives 16, VCR 1
    ∷ done (operate 0xED 0x6003 8) (state [] (masked 4 0xB)) (state (v 3 1 8 ∷ v 3 2 24 ∷ []) (control 4 0xB 3 0 1))
    ∷ done (operate 0xED 0x2003 8) (state [] (masked 4 0xB)) (state (v 3 0 16 ∷ []) (control 4 0xB 1 0 1))
    -- 11. base FFFFFFFC, stride 4: element 1 is at 0. A longword load of element 1 alone, from a window at 0
    ∷ done (move 0x34 0xE003 0xFFFFFFFC 4 0) (with-11 []) (with-11 (v 3 1 0x04030201 ∷ []))
    -- 12. VLR 2, V1 = 1, 2, V4 = 3, 4, longword queue V3 = V1+V2, then V1 = V4+V5: list 0, 64, 1, 65 ends with V3 = 1, 2 and V1 = 3, 4; 64, 0, 1, 65
    -- gets 9 at 0
    ∷ done (run_order queue-12 (0 ∷ 64 ∷ 1 ∷ 65 ∷ [])) (with-12 1 2 0 0) (with-12 3 4 1 2)
    ∷ refuses (run_order queue-12 (64 ∷ 0 ∷ 1 ∷ 65 ∷ [])) (with-12 1 2 0 0) 9 0
    ∷ []

-- document 02, Q-1: F divide, V1[0] by V2[0]
abbrev divided : List Row
divided =
    -- 1 by 3 is AAAAAA.AAA.. in 24 digits: rounded up
    gives 0xAC 0x2123 0x4080 0x4140 0xAAAB3FAA
    -- 7 by 11 is A2E8BA.2E.. in 24 digits: rounded down
    ∷ gives 0xAC 0x2123 0x41E0 0x4230 0xE8BA4022
    -- the sign, and the high half of V3[0], which is kept
    ∷ becomes 0xAC 0x2123 0 0xC080 0x4140 0x1234567800000000 0x12345678AAABBFAA
    -- the scalar, 1, divided by V2[0], 3
    ∷ becomes 0xAD 0x2023 0x4080 0 0x4140 0 0xAAAB3FAA
    -- the largest number by the smallest: overflow
    ∷ records 0xAC 0x2123 0xFFFF7FFF 0x0080 0x8008 0x00080008
    -- the smallest number by 1 is still a number; by 2: 0 without EXC, 8001 with
    ∷ gives 0xAC 0x2123 0x0080 0x4080 0x0080
    ∷ gives 0xAC 0x0123 0x0080 0x4100 0
    ∷ records 0xAC 0x2123 0x0080 0x4100 0x8001 0x00080001
    -- division by zero: 8002 and bit 1, without EXC too; so is zero by zero, and a zero with a fraction is zero
    ∷ records 0xAC 0x0123 0x4080 0 0x8002 0x00080002
    ∷ records 0xAC 0x2123 0xFFFF007F 0xFFFF007F 0x8002 0x00080002
    -- a reserved operand by zero: 8006, and bits 1 and 2
    ∷ records 0xAC 0x2123 0x8000 0 0x8006 0x00080006
    -- any other reserved operand: 8004
    ∷ records 0xAC 0x2123 0x8000 0x4080 0x8004 0x00080004
    ∷ records 0xAC 0x2123 0 0x8000 0x8004 0x00080004
    -- zero by a number: a clean zero, and nothing is recorded
    ∷ gives 0xAC 0x2123 0xFFFF007F 0x4080 0
    ∷ []

-- document 02, Q-2: underflow is judged after rounding, V1[0] times V2[0]
abbrev rounding : List Row
rounding =
    -- the example: FFFFFE times 800001, 2 less than 2 ^ 47, rounds up to the smallest number; without EXC too
    gives 0xA4 0x2123 0xFFFE407F 0x00010080 0x00000080
    ∷ gives 0xA4 0x0123 0xFFFE407F 0x00010080 0x00000080
    -- and with the other sign, and the scalar
    ∷ gives 0xA4 0x2123 0xFFFEC07F 0x00010080 0x00008080
    ∷ becomes 0xA5 0x2023 0xFFFE407F 0 0x00010080 0 0x00000080
    -- F80000 times 842108, half a unit below it: halves go away from zero
    ∷ gives 0xA4 0x2123 0x00004078 0x21080084 0x00000080
    -- FFFFFD times 800001 rounds to FFFFFF, which is still below it: 0 without EXC, 8001 with
    ∷ gives 0xA4 0x0123 0xFFFD407F 0x00010080 0
    ∷ records 0xA4 0x2123 0xFFFD407F 0x00010080 0x8001 0x00080001
    -- BFFFFD times AAAAAD, 2 ^ 47 - 2 ^ 22 - 7, just past half a unit below it, rounds to FFFFFF too
    ∷ records 0xA4 0x2123 0xFFFD403F 0xAAAD00AA 0x8001 0x00080001
    -- one exponent further down the same carry does not reach it
    ∷ records 0xA4 0x2123 0xFFFE3FFF 0x00010080 0x8001 0x00080001
    ∷ []

abbrev pub settled : List Row
settled = numbered ++ divided ++ rounding
