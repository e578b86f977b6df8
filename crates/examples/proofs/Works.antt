-- Further rows: each of the 40 opcodes, with a result that no other work and no other form would give; and what an opcode or a control word says.
use mathlib.Core.List.{List, [], ◌∷◌}
use Prim.Native.Nat.{ℕ}
use Rattle.examples.proofs.Rows.{Row, enabled, masked, control, state, state_and, done, refuses, marks, marks_none, operate, move, three, becomes, gives}

-- V1[0] is 6, V2[0] is 80000103, V3[0] is 9 and the scalar 11, each with a high half of its own
abbrev longwords : (opcode r : ℕ) → Row
longwords opcode r = becomes opcode 0x0123 0xD_0000_0011 0xA_0000_0006 0xB_8000_0103 0xC_0000_0009 r

-- V1[0] is 3, V2[0] is 2 and the scalar 5, in F
abbrev floats : (opcode r : ℕ) → Row
floats opcode r = becomes opcode 0x0123 0xD_0000_41A0 0xA_0000_4140 0xB_0000_4100 0xC_0000_0009 r

-- the mask bit of V1[0], or the scalar, and V2[0], by the relation in the control word
abbrev compares : (opcode cntrl scalar a b bit : ℕ) → Row
compares opcode cntrl scalar a b bit = marks_none (operate opcode cntrl scalar) (state (three a b 0) (enabled 1)) (state (three a b 0) (masked 1 bit))

-- 01 to 10 from address 100 on; base 100, V2[0] is 8 with a high half, and V3[0] is C_00000009
abbrev bytes : List ℕ
bytes = 1 ∷ 2 ∷ 3 ∷ 4 ∷ 5 ∷ 6 ∷ 7 ∷ 8 ∷ 9 ∷ 10 ∷ 11 ∷ 12 ∷ 13 ∷ 14 ∷ 15 ∷ 16 ∷ []

abbrev loads : (opcode r : ℕ) → Row
loads opcode r =
    marks 3 0xA5 (move opcode 0x0023 0x100 0 0x100) (state_and (three 0 0x7_0000_0008 0xC_0000_0009) (enabled 1) bytes)
    (state_and (three 0 0x7_0000_0008 r) (enabled 1) bytes)

abbrev stores : (opcode : ℕ) → (end : List ℕ) → Row
stores opcode end =
    marks_none (move opcode 0x0023 0x100 0 0x100) (state_and (three 0 0x7_0000_0008 0xC_0000_0009) (enabled 1) bytes)
    (state_and (three 0 0x7_0000_0008 0xC_0000_0009) (enabled 1) end)

-- document 01, "Opcodes", line by line
abbrev pub opcodes : List Row
opcodes =
    -- add, subtract, multiply, longword: the high half is V3's own
    longwords 0x80 0xC_8000_0109
    ∷ longwords 0x81 0xC_8000_0114
    ∷ longwords 0x88 0xC_7FFF_FF03
    ∷ longwords 0x89 0xC_7FFF_FF0E
    ∷ longwords 0xA0 0xC_0000_0612
    ∷ longwords 0xA1 0xC_8000_1133
    -- compare, longword. 6 is greater than 80000103, which is below zero (in F, zero is not); the scalar, and not V1[0], is equal
    ∷ compares 0xC0 0x0120 0 6 0x8000_0103 1
    ∷ compares 0xC1 0x0121 0xD_8000_0103 6 0x8000_0103 1
    ∷ compares 0xC0 0x0121 0xD_8000_0103 6 0x8000_0103 0
    -- bit set, exclusive or, bit clear: the high half is V2's
    ∷ longwords 0xC8 0xB_8000_0107
    ∷ longwords 0xC9 0xB_8000_0113
    ∷ longwords 0xE8 0xB_8000_0105
    ∷ longwords 0xE9 0xB_8000_0112
    ∷ longwords 0xCC 0xB_8000_0101
    ∷ longwords 0xCD 0xB_8000_0102
    -- shift right, shift left, by 6 and by 17: the high half is V3's own
    ∷ longwords 0xE0 0xC_0200_0004
    ∷ longwords 0xE1 0xC_0000_4000
    ∷ longwords 0xE4 0xC_0000_40C0
    ∷ longwords 0xE5 0xC_0206_0000
    -- add, subtract, multiply, divide, F: 3 and 2 give 5, 1, 6 and 1.5; 5 and 2 give 7, 3, 10 and 2.5
    ∷ floats 0x84 0xC_0000_41A0
    ∷ floats 0x85 0xC_0000_41E0
    ∷ floats 0x8C 0xC_0000_4080
    ∷ floats 0x8D 0xC_0000_4140
    ∷ floats 0xA4 0xC_0000_41C0
    ∷ floats 0xA5 0xC_0000_4220
    ∷ floats 0xAC 0xC_0000_40C0
    ∷ floats 0xAD 0xC_0000_4120
    -- compare, F. -1 is less than 1 (as a longword it is greater); the scalar, -1, is less than 1, and V1[0], 3, is not
    ∷ compares 0xC4 0x0122 0 0xC080 0x4080 1
    ∷ compares 0xC5 0x0122 0xD_0000_C080 0x4140 0x4080 1
    ∷ compares 0xC4 0x0122 0xD_0000_C080 0x4140 0x4080 0
    -- convert, L to F, of 3; IOTA's first element, V3[0], is 0, and VCR 1; merge with a mask bit that is MTF, 0: all 64 bits of V1[0] or the scalar
    ∷ becomes 0xEC 0x0123 0xD_0000_0011 0xA_0000_0006 0xB_0000_0003 0xC_0000_0009 0xC_0000_4140
    ∷ marks 3 0xA5 (operate 0xED 0x0123 0xD_0000_0011) (state (three 6 7 0xC_0000_0009) (enabled 1)) (state (three 6 7 0xC_0000_0000) (control 1 0 1 0 1))
    ∷ longwords 0xEE 0xA_0000_0006
    ∷ longwords 0xEF 0xD_0000_0011
    -- load L Q, from 100; gather L Q, from 108
    ∷ loads 0x34 0xC_0403_0201
    ∷ loads 0x36 0x0807_0605_0403_0201
    ∷ loads 0x35 0xC_0C0B_0A09
    ∷ loads 0x37 0x100F_0E0D_0C0B_0A09
    -- store L Q, to 100; scatter L Q, to 108
    ∷ stores 0x9C (9 ∷ 0 ∷ 0 ∷ 0 ∷ 5 ∷ 6 ∷ 7 ∷ 8 ∷ 9 ∷ 10 ∷ 11 ∷ 12 ∷ 13 ∷ 14 ∷ 15 ∷ 16 ∷ [])
    ∷ stores 0x9E (9 ∷ 0 ∷ 0 ∷ 0 ∷ 12 ∷ 0 ∷ 0 ∷ 0 ∷ 9 ∷ 10 ∷ 11 ∷ 12 ∷ 13 ∷ 14 ∷ 15 ∷ 16 ∷ [])
    ∷ stores 0x9D (1 ∷ 2 ∷ 3 ∷ 4 ∷ 5 ∷ 6 ∷ 7 ∷ 8 ∷ 9 ∷ 0 ∷ 0 ∷ 0 ∷ 13 ∷ 14 ∷ 15 ∷ 16 ∷ [])
    ∷ stores 0x9F (1 ∷ 2 ∷ 3 ∷ 4 ∷ 5 ∷ 6 ∷ 7 ∷ 8 ∷ 9 ∷ 0 ∷ 0 ∷ 0 ∷ 12 ∷ 0 ∷ 0 ∷ 0 ∷ [])
    ∷ []

-- a reserved opcode; a reserved control word
abbrev reserved : (opcode : ℕ) → Row
reserved opcode = refuses (operate opcode 0x0123 0) (state [] (enabled 1)) 1 0

abbrev refuses_word : (opcode cntrl : ℕ) → Row
refuses_word opcode cntrl = refuses (operate opcode cntrl 0) (state [] (enabled 1)) 2 0

-- accepted, where all is zero: nothing changes but the mask
abbrev accepts : (opcode cntrl : ℕ) → (bit : ℕ) → Row
accepts opcode cntrl bit = done (move opcode cntrl 0 0 0) (state_and [] (enabled 1) (0 ∷ 0 ∷ 0 ∷ 0 ∷ [])) (state_and [] (masked 1 bit) (0 ∷ 0 ∷ 0 ∷ 0 ∷ []))

abbrev pub words : List Row
words =
    -- the chapter's MFVP, VSYNC and MTVP; D and G add, subtract, multiply, divide and compare
    reserved 0x31
    ∷ reserved 0xA8
    ∷ reserved 0xA9
    ∷ reserved 0x82
    ∷ reserved 0x86
    ∷ reserved 0x8A
    ∷ reserved 0x8E
    ∷ reserved 0xA2
    ∷ reserved 0xA6
    ∷ reserved 0xAA
    ∷ reserved 0xAE
    ∷ reserved 0xC2
    ∷ reserved 0xC6
    -- "Relations in <2:0> .. 3 and 7 are refused; so is bit <3> for F compare": for longwords it is ignored, 8 is greater and 9 equal
    ∷ refuses_word 0xC0 0x0123
    ∷ refuses_word 0xC1 0x0127
    ∷ refuses_word 0xC0 0x012B
    ∷ refuses_word 0xC1 0x012F
    ∷ accepts 0xC0 0x0128 0
    ∷ accepts 0xC1 0x0129 1
    ∷ refuses_word 0xC4 0x0123
    ∷ refuses_word 0xC5 0x0127
    ∷ refuses_word 0xC4 0x0128
    ∷ refuses_word 0xC5 0x0129
    -- "Conversions: 5 .., 4 .., 1 .. Others are refused"
    ∷ refuses_word 0xEC 0x0023
    ∷ refuses_word 0xEC 0x0223
    ∷ refuses_word 0xEC 0x0323
    ∷ refuses_word 0xEC 0x0623
    ∷ refuses_word 0xEC 0x0723
    ∷ refuses_word 0xEC 0x0823
    ∷ refuses_word 0xEC 0x0923
    ∷ refuses_word 0xEC 0x0A23
    ∷ refuses_word 0xEC 0x0B23
    ∷ refuses_word 0xEC 0x0C23
    ∷ refuses_word 0xEC 0x0D23
    ∷ refuses_word 0xEC 0x0E23
    ∷ refuses_word 0xEC 0x0F23
    -- "A gather with Vb = Vc is refused with 2", at VLR 0 too; a load, a store and a scatter are not
    ∷ refuses_word 0x35 0x0022
    ∷ refuses_word 0x37 0x0022
    ∷ refuses (operate 0x35 0x0022 0) (state [] (enabled 0)) 2 0
    ∷ accepts 0x34 0x0022 0
    ∷ accepts 0x9C 0x0022 0
    ∷ accepts 0x9D 0x0022 0
    -- "<12> ignored", and EXC where nothing is recorded: 6 and 3 give 9, and 7
    ∷ gives 0x80 0x1123 6 3 9
    ∷ gives 0xC8 0x3123 6 3 7
    ∷ []
