-- Further rows, document 01, "What an element receives": masks, merge, IOTA, compares, and the bit of VAER of each exception.
use mathlib.Core.List.{List, [], ◌∷◌, ◌++◌}
use Prim.Native.Nat.{ℕ}
use lib.ListN.{replicate}
use Rattle.demands.specs.Calls.{Lent, lent}
use Rattle.examples.proofs.Rows.{Row, Cell, v, enabled, masked, control, stopped, state, done, operate, three, gives, records}

-- V1 = 1, 2, 3 and V2 = 10, 20, 30, in hex, and V3
abbrev with-3 : (c d e : ℕ) → List ℕ → Lent
with-3 c d e numbers =
    state (v 1 0 1 ∷ v 1 1 2 ∷ v 1 2 3 ∷ v 2 0 0x10 ∷ v 2 1 0x20 ∷ v 2 2 0x30 ∷ v 3 0 c ∷ v 3 1 d ∷ v 3 2 e ∷ []) numbers

abbrev pub masks : List Row
masks =
    -- "i < VLR and (MOE = 0 or VMR<i> = MTF)": VLR 2 and VMR 1. Without MOE; with it and MTF 1, which is 0's; with it and MTF 0, which is 1's
    done (operate 0x80 0x0123 0) (with-3 7 7 7 (masked 2 1)) (with-3 0x11 0x22 7 (masked 2 1))
    ∷ done (operate 0x80 0xC123 0) (with-3 7 7 7 (masked 2 1)) (with-3 0x11 7 7 (masked 2 1))
    ∷ done (operate 0x80 0x8123 0) (with-3 7 7 7 (masked 2 1)) (with-3 7 0x22 7 (masked 2 1))
    -- without MOE, MTF says nothing; at VLR 0 nothing is done
    ∷ done (operate 0x80 0x4123 0) (with-3 7 7 7 (masked 2 1)) (with-3 0x11 0x22 7 (masked 2 1))
    ∷ done (operate 0x80 0x0123 0) (with-3 7 7 7 (enabled 0)) (with-3 7 7 7 (enabled 0))
    -- "Merge, i < VLR: Va[i] (or scalar) where VMR<i> = MTF, else Vb[i]", with MTF 1 and with 0, and whatever MOE is
    ∷ done (operate 0xEE 0x4123 0) (with-3 7 7 7 (masked 2 1)) (with-3 1 0x20 7 (masked 2 1))
    ∷ done (operate 0xEE 0x0123 0) (with-3 7 7 7 (masked 2 1)) (with-3 0x10 2 7 (masked 2 1))
    ∷ done (operate 0xEE 0xC123 0) (with-3 7 7 7 (masked 2 1)) (with-3 1 0x20 7 (masked 2 1))
    ∷ done (operate 0xEF 0x4123 0x55) (with-3 7 7 7 (masked 2 1)) (with-3 0x55 0x20 7 (masked 2 1))
    ∷ []

-- ---- VLR 64: all of V1 is 1, all of V2 is 2, and V3
abbrev all : (c : List ℕ) → List ℕ → Lent
all c numbers = lent (replicate 64 0 ++ replicate 64 1 ++ replicate 64 2 ++ c ++ replicate 768 0) numbers [] [] 0 0

abbrev pub lengths : List Row
lengths =
    -- all 64 elements; element 63 alone; and every bit of the mask, where 1 is less than 2
    done (operate 0x80 0x0123 0) (all (replicate 64 7) (enabled 64)) (all (replicate 64 3) (enabled 64))
    ∷ done (operate 0x80 0xC123 0) (all (replicate 64 7) (masked 64 0x8000_0000_0000_0000))
    (all (replicate 63 7 ++ (3 ∷ [])) (masked 64 0x8000_0000_0000_0000))
    ∷ done (operate 0xC0 0x0122 0) (all (replicate 64 7) (enabled 64)) (all (replicate 64 7) (masked 64 0xFFFF_FFFF_FFFF_FFFF))
    -- IOTA counts 64 matching bits
    ∷ done (operate 0xED 0x0003 0) (all (replicate 64 7) (enabled 64)) (all (replicate 64 0) (control 64 0 64 0 1))
    ∷ []

-- four elements of V5, under VLR 4 and a mask
abbrev with-5 : (a b c d vmr vcr : ℕ) → Lent
with-5 a b c d vmr vcr = state (v 5 0 a ∷ v 5 1 b ∷ v 5 2 c ∷ v 5 3 d ∷ []) (control 4 vmr vcr 0 1)

abbrev pub iotas : List Row
iotas =
    -- "Elements from VCR on keep", and MOE is ignored
    done (operate 0xED 0x6005 8) (with-5 7 7 7 7 0xB 0) (with-5 0 8 24 7 0xB 3)
    ∷ done (operate 0xED 0xE005 8) (with-5 7 7 7 7 0xB 0) (with-5 0 8 24 7 0xB 3)
    -- a stride of -1 with a one above bit 31, and high halves, which are kept
    ∷ done (operate 0xED 0x6005 0x1_FFFF_FFFF)
    (with-5 0x7_0000_0009 0x7_0000_0009 0x7_0000_0009 0x7_0000_0009 0xE 0) (with-5 0x7_FFFF_FFFF 0x7_FFFF_FFFE 0x7_FFFF_FFFD 0x7_0000_0009 0xE 3)
    -- mask bits at or past VLR do not count; at VLR 0 VCR becomes 0
    ∷ done (operate 0xED 0x4005 8) (with-5 7 7 7 7 0xF0 9) (with-5 7 7 7 7 0xF0 0)
    ∷ done (operate 0xED 0x4005 8) (state [] (control 0 1 9 0 1)) (state [] (control 0 1 0 0 1))
    ∷ []

-- a compare of V1 with V2, -1, 1 and 2 with 1, 1 and 1: less, equal, greater; VLR 3, and a mask that is F8 above bit 2
abbrev compares : (cntrl bits : ℕ) → Row
compares cntrl bits = done (operate 0xC0 cntrl 0) (state cells (masked 3 0xF8)) (state cells (masked 3 bits))
  where
    cells : List Cell
    cells = v 1 0 0xFFFF_FFFF ∷ v 1 1 0x9_0000_0001 ∷ v 1 2 2 ∷ v 2 0 1 ∷ v 2 1 0x8_0000_0001 ∷ v 2 2 1 ∷ []

-- in F: -1, 1 and 1.5 with 1, 1 and 1
abbrev compares_f : (cntrl bits : ℕ) → Row
compares_f cntrl bits = done (operate 0xC4 cntrl 0) (state cells (masked 3 0xF8)) (state cells (masked 3 bits))
  where
    cells : List Cell
    cells = v 1 0 0xC080 ∷ v 1 1 0x9_0000_4080 ∷ v 1 2 0x40C0 ∷ v 2 0 0x4080 ∷ v 2 1 0x8_0000_4080 ∷ v 2 2 0x4080 ∷ []

abbrev pub relations : List Row
relations =
    -- "0 greater, 1 equal, 2 less, 4 less or equal, 5 not equal, 6 greater or equal; Va stands left"
    compares 0x0120 0xFC
    ∷ compares 0x0121 0xFA
    ∷ compares 0x0122 0xF9
    ∷ compares 0x0124 0xFB
    ∷ compares 0x0125 0xFD
    ∷ compares 0x0126 0xFE
    ∷ compares_f 0x0120 0xFC
    ∷ compares_f 0x0121 0xFA
    ∷ compares_f 0x0122 0xF9
    ∷ compares_f 0x0124 0xFB
    ∷ compares_f 0x0125 0xFD
    ∷ compares_f 0x0126 0xFE
    -- with MOE, of VMR 2: under MTF 1 only bit 1, which is cleared, since 2 is not less than 2; under MTF 0 only bit 0, which is set, since 0 is less than 1
    ∷ done (operate 0xC0 0xC122 0) (state (v 1 1 2 ∷ v 2 0 1 ∷ v 2 1 2 ∷ []) (masked 2 2)) (state (v 1 1 2 ∷ v 2 0 1 ∷ v 2 1 2 ∷ []) (masked 2 0))
    ∷ done (operate 0xC0 0x8122 0) (state (v 2 0 1 ∷ v 2 1 2 ∷ []) (masked 2 2)) (state (v 2 0 1 ∷ v 2 1 2 ∷ []) (masked 2 3))
    -- a zero with a fraction is zero
    ∷ done (operate 0xC4 0x0121 0) (state (three 0xFFFF_007F 0 0) (enabled 1)) (state (three 0xFFFF_007F 0 0) (masked 1 1))
    ∷ []

abbrev pub results : List Row
results =
    -- longwords: -1 minus 7FFFFFFF is -2^31, and so is that times 1: no overflow. "Overflow is recorded only with EXC"
    gives 0x88 0x2123 0xFFFF_FFFF 0x7FFF_FFFF 0x8000_0000
    ∷ gives 0xA0 0x2123 0x8000_0000 1 0x8000_0000
    ∷ gives 0x80 0x0123 0x7FFF_FFFF 1 0x8000_0000
    ∷ gives 0xA0 0x0123 0x1_0000 0x1_0000 0
    ∷ records 0xA0 0x2123 0x1_0000 0x1_0000 0 0x0008_0020
    ∷ records 0x80 0x2123 0x8000_0000 0xFFFF_FFFF 0x7FFF_FFFF 0x0008_0020
    -- "Shifts: Vb by Va<4:0>": 33 is 1; nothing passes out of the 32 bits or into them
    ∷ gives 0xE4 0x0123 33 0x1_FFFF_FFFF 0xFFFF_FFFE
    ∷ gives 0xE0 0x0123 33 0x1_8000_0000 0x4000_0000
    ∷ gives 0xE4 0x0123 31 3 0x8000_0000
    ∷ gives 0xE0 0x0123 32 5 5
    -- F, "halves away from zero": 1 and half a unit of its last place, with either sign
    ∷ gives 0x84 0x2123 0x4080 0x3480 0x0001_4080
    ∷ gives 0x84 0x2123 0xC080 0xB480 0x0001_C080
    -- signs: 2 - 3 and 1 + -2; 3 by -2 and -3 by -2, multiplied and divided
    ∷ gives 0x8C 0x2123 0x4100 0x4140 0xC080
    ∷ gives 0x84 0x2123 0x4080 0xC100 0xC080
    ∷ gives 0xA4 0x2123 0x4140 0xC100 0xC1C0
    ∷ gives 0xA4 0x2123 0xC140 0xC100 0x41C0
    ∷ gives 0xAC 0x2123 0x4140 0xC100 0xC0C0
    ∷ gives 0xAC 0x2123 0xC140 0xC100 0x40C0
    -- "A zero result is all zero bits", of a negative underflow too; a zero with a fraction is zero
    ∷ gives 0xA4 0x0123 0x8080 0x4000 0
    ∷ gives 0x8C 0x2123 0x4080 0x4080 0
    ∷ gives 0x84 0x2123 0xFFFF_007F 0xFFFF_007F 0
    ∷ gives 0x84 0x2123 0xFFFF_007F 0x4080 0x4080
    ∷ gives 0xA4 0x2123 0xFFFF_007F 0xFFFF_7FFF 0
    -- "Overflow is judged after rounding": the largest number and half a unit of its last place; a quarter is less
    ∷ records 0x84 0x2123 0xFFFF_7FFF 0x7380 0x8008 0x0008_0008
    ∷ gives 0x84 0x2123 0xFFFF_7FFF 0x7300 0xFFFF_7FFF
    -- conversions: -2.5 rounds to -3; -2^31 - 256 overflows; 1/2 rounds to 1 and is cut to 0; 2^126 has no low bits, and overflows; L to F of -1,
    -- -2^31 and 7FFFFFFF, which rounds to 2^31; of 0
    ∷ gives 0xEC 0x2523 0 0xC120 0xFFFF_FFFD
    ∷ records 0xEC 0x2523 0 0x0001_D000 0x7FFF_FF00 0x0008_0020
    ∷ gives 0xEC 0x2523 0 0x4000 1
    ∷ gives 0xEC 0x2423 0 0x4000 0
    ∷ records 0xEC 0x2523 0 0x7F80 0 0x0008_0020
    ∷ gives 0xEC 0x0523 0 0x7F80 0
    ∷ gives 0xEC 0x2123 0 0xFFFF_FFFF 0xC080
    ∷ gives 0xEC 0x2123 0 0x8000_0000 0xD000
    ∷ gives 0xEC 0x2123 0 0x7FFF_FFFF 0x5000
    ∷ gives 0xEC 0x2123 0 0 0
    ∷ []

-- one element, from control numbers to others
abbrev ends : (opcode cntrl a b c r : ℕ) → (start end : List ℕ) → Row
ends opcode cntrl a b c r start end = done (operate opcode cntrl 0) (state (three a b c) start) (state (three a b r) end)

abbrev pub exceptions : List Row
exceptions =
    -- "VAER gets the bit of that type and the bit of Vc". 4 reserved operand: bit 2, on either side, whatever the other is and without EXC too
    records 0x84 0x2123 0x8000 0x4080 0x8004 0x0008_0004
    ∷ records 0x84 0x0123 0x4080 0x8000 0x8004 0x0008_0004
    ∷ records 0x8C 0x0123 0x8000 0x4080 0x8004 0x0008_0004
    ∷ records 0x8C 0x2123 0x4080 0x8000 0x8004 0x0008_0004
    ∷ records 0xA4 0x0123 0x8000 0 0x8004 0x0008_0004
    ∷ records 0xA4 0x2123 0 0xFFFF_807F 0x8004 0x0008_0004
    -- 8 overflow: bit 3, without EXC too; 1 underflow: bit 0, only with it; 5, integer overflow. The high half is kept
    ∷ records 0xA4 0x0123 0x7F80 0x7F80 0x8008 0x0008_0008
    ∷ ends 0xA4 0x2123 0x0080 0x0080 0xC_0000_0009 0xC_0000_8001 (enabled 1) (stopped 1 0x0008_0001)
    ∷ ends 0xA4 0x0123 0x0080 0x0080 0xC_0000_0009 0xC_0000_0000 (enabled 1) (enabled 1)
    ∷ ends 0x80 0x2123 0x7FFF_FFFF 1 0xC_0000_0009 0xC_8000_0000 (enabled 1) (stopped 1 0x0008_0020)
    -- conversions: "A reserved source writes zero and records bit 2 and the register"
    ∷ ends 0xEC 0x0523 0 0x8000 0xC_0000_0009 0xC_0000_0000 (enabled 1) (stopped 1 0x0008_0004)
    ∷ ends 0xEC 0x0423 0 0x8000 0xC_0000_0009 0xC_0000_0000 (enabled 1) (stopped 1 0x0008_0004)
    -- "Compare records no register bit, and clears VMR<i> for a reserved operand", for "not equal" too
    ∷ ends 0xC4 0x0125 0x8000 0x4080 0 0 (masked 1 3) (control 1 2 0 4 0x80)
    ∷ ends 0xC4 0x0125 0x4080 0x8000 0 0 (masked 1 3) (control 1 2 0 4 0x80)
    -- the register's bit is 16+n: V0 and V15
    ∷ done (operate 0x80 0x2120 0) (state (v 1 0 0x7FFF_FFFF ∷ v 2 0 1 ∷ []) (enabled 1))
    (state (v 0 0 0x8000_0000 ∷ v 1 0 0x7FFF_FFFF ∷ v 2 0 1 ∷ []) (stopped 1 0x0001_0020))
    ∷ done (operate 0x80 0x212F 0) (state (v 1 0 0x7FFF_FFFF ∷ v 2 0 1 ∷ []) (enabled 1))
    (state (v 1 0 0x7FFF_FFFF ∷ v 2 0 1 ∷ v 15 0 0x8000_0000 ∷ []) (stopped 1 0x8000_0020))
    -- "VAER gathers bits by or", and AEX may be set already; a recorded bit that was there stops it too
    ∷ ends 0x80 0x2123 0x7FFF_FFFF 1 0 0x8000_0000 (control 1 0 0 0x0001_0001 0x81) (stopped 1 0x0009_0021)
    ∷ ends 0x80 0x2123 0x7FFF_FFFF 1 0 0x8000_0000 (control 1 0 0 0x0008_0020 1) (stopped 1 0x0008_0020)
    -- F compare: 1 is less than 1.5, and -1.5 than -1
    ∷ ends 0xC4 0x0122 0x4080 0x40C0 0 0 (enabled 1) (masked 1 1)
    ∷ ends 0xC4 0x0122 0xC0C0 0xC080 0 0 (enabled 1) (masked 1 1)
    -- where nothing is recorded VAER, VEN and AEX stay
    ∷ ends 0x80 0x2123 1 1 0 2 (control 1 0 0 0x0001_0001 0x81) (control 1 0 0 0x0001_0001 0x81)
    -- an element that is not operated on records nothing; one after the first that records is operated on
    ∷ ends 0x84 0xE123 0x8000 0x4080 7 7 (masked 1 0) (masked 1 0)
    ∷ ends 0xEC 0xC123 0 3 7 7 (masked 1 0) (masked 1 0)
    ∷ done (operate 0x84 0x2123 0) (state (v 1 0 0x8000 ∷ v 1 1 0x4080 ∷ v 2 1 0x4080 ∷ []) (enabled 2))
    (state (v 1 0 0x8000 ∷ v 1 1 0x4080 ∷ v 2 1 0x4080 ∷ v 3 0 0x8004 ∷ v 3 1 0x4100 ∷ []) (stopped 2 0x0008_0004))
    ∷ []
