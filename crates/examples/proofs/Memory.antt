-- Further rows, document 01, "Memory": windows, addresses, bad elements and what is moved.
use mathlib.Core.Bool.{true, false}
use mathlib.Core.List.{List, [], ◌∷◌}
use Prim.Native.Nat.{ℕ}
use lib.ListN.{replicate}
use Rattle.demands.specs.Calls.{Lent}
use Rattle.examples.proofs.Rows.{Row, v, window, enabled, masked, state_and, done, refuses, move}

-- V1 = A_00000001, B_00000002 and V2 = 8, 0, with high halves, and bytes
abbrev with-1 : (a b : ℕ) → List ℕ → List ℕ → Lent
with-1 a b numbers bytes = state_and (v 1 0 a ∷ v 1 1 b ∷ v 2 0 0x5_0000_0008 ∷ v 2 1 0x5_0000_0000 ∷ []) numbers bytes

abbrev start : List ℕ → List ℕ → Lent
start numbers bytes = with-1 0xA_0000_0001 0xB_0000_0002 numbers bytes

-- sixteen bytes, all zero
abbrev sixteen : List ℕ
sixteen = replicate 16 0

-- 34 loads longwords, 36 quadwords, 35 gathers longwords, 9C stores longwords; Vb is V2 and Vc V1
abbrev pub windows : List Row
windows =
    -- "at most 65,536 bytes, with an origin that is a multiple of 8 and origin + length at most 2^32"
    window 65536 0 true
    ∷ window 65537 0 false
    ∷ window 16 8 true
    ∷ window 16 4 false
    ∷ window 8 0xFFFF_FFF8 true
    ∷ window 9 0xFFFF_FFF8 false
    ∷ window 0 0x1_0000_0000 true
    ∷ window 0 0x1_0000_0008 false
    ∷ window 0 4 false
    -- one that is not allowed is refused at VLR 0 too, and with every element masked off; an empty one has no element
    ∷ refuses (move 0x9C 0x0021 0 0 4) (start (enabled 0) []) 4 0
    ∷ refuses (move 0x34 0xC021 0 0 4) (start (enabled 2) []) 4 0
    ∷ refuses (move 0x9C 0x0021 0 0 0x1_0000_0000) (start (enabled 1) []) 6 0
    ∷ done (move 0x9C 0x0021 0 0 0) (start (enabled 0) []) (start (enabled 0) [])
    -- an instruction that moves no memory does not look at it
    ∷ done (move 0x80 0x0123 0 0 4) (start (enabled 0) []) (start (enabled 0) [])
    ∷ []

abbrev pub elements : List Row
elements =
    -- end minus 3 and minus 4; a window that ends a byte too early; a quadword at end minus 4 and minus 8
    refuses (move 0x34 0x0021 0x10D 0 0x100) (start (enabled 1) sixteen) 5 0
    ∷ done (move 0x34 0x0021 0x10C 0 0x100) (start (enabled 1) sixteen) (with-1 0xA_0000_0000 0xB_0000_0002 (enabled 1) sixteen)
    ∷ refuses (move 0x34 0x0021 0x10C 0 0x100) (start (enabled 1) (replicate 15 0)) 6 0
    ∷ refuses (move 0x36 0x0021 0x10C 0 0x100) (start (enabled 1) sixteen) 5 0
    ∷ done (move 0x36 0x0021 0x108 0 0x100) (start (enabled 1) sixteen) (with-1 0 0xB_0000_0002 (enabled 1) sixteen)
    -- just before the window, and just past it
    ∷ refuses (move 0x34 0x0021 0xFC 0 0x100) (start (enabled 1) sixteen) 6 0
    ∷ refuses (move 0x34 0x0021 0x110 0 0x100) (start (enabled 1) sixteen) 6 0
    -- "For the lowest bad element, alignment (4 or 8) is tested before the window": 0 is outside and 1 misaligned; 0 is both; 1 alone is misaligned
    ∷ refuses (move 0x9C 0x0021 0x110 1 0x100) (start (enabled 2) sixteen) 6 0
    ∷ refuses (move 0x9C 0x0021 0x111 0 0x100) (start (enabled 2) sixteen) 5 0
    ∷ refuses (move 0x9C 0x0021 0x100 1 0x100) (start (enabled 2) sixteen) 5 1
    -- 1 alone is outside, and the first has not been stored
    ∷ refuses (move 0x9C 0x0021 0x10C 4 0x100) (start (enabled 2) sixteen) 6 1
    -- "Only operated elements are looked at": 1 is masked off, and past VLR
    ∷ done (move 0x9C 0xC021 0x100 1 0x100) (start (masked 2 1) sixteen) (start (masked 2 1) (1 ∷ replicate 15 0))
    ∷ done (move 0x9C 0x0021 0x100 1 0x100) (start (enabled 1) sixteen) (start (enabled 1) (1 ∷ replicate 15 0))
    -- stride 0, "so the highest wins"; the other bytes are kept
    ∷ done (move 0x9C 0x0021 0x104 0 0x100) (start (enabled 2) (replicate 9 9))
    (start (enabled 2) (9 ∷ 9 ∷ 9 ∷ 9 ∷ 2 ∷ 0 ∷ 0 ∷ 0 ∷ 9 ∷ []))
    -- a stride of -4; bit 13 is ignored
    ∷ done (move 0x9C 0x2021 0x104 0xFFFF_FFFC 0x100) (start (enabled 2) (replicate 9 9))
    (start (enabled 2) (2 ∷ 0 ∷ 0 ∷ 0 ∷ 1 ∷ 0 ∷ 0 ∷ 0 ∷ 9 ∷ []))
    -- "base + Vb[i]<31:0>": a gather of longwords, which keeps the high halves
    ∷ done (move 0x35 0x0021 0x100 0 0x100) (start (enabled 2) (1 ∷ 2 ∷ 3 ∷ 4 ∷ 5 ∷ 6 ∷ 7 ∷ 8 ∷ 9 ∷ 0 ∷ 0 ∷ 0 ∷ []))
    (with-1 0xA_0000_0009 0xB_0403_0201 (enabled 2) (1 ∷ 2 ∷ 3 ∷ 4 ∷ 5 ∷ 6 ∷ 7 ∷ 8 ∷ 9 ∷ 0 ∷ 0 ∷ 0 ∷ []))
    -- modulo 2^32: base FFFFFFF8 and 8 is 0, and 0 is FFFFFFF8, before a window at 0
    ∷ done (move 0x35 0x0021 0xFFFF_FFF8 0 0) (start (enabled 1) (1 ∷ 2 ∷ 3 ∷ 4 ∷ [])) (with-1 0xA_0403_0201 0xB_0000_0002 (enabled 1) (1 ∷ 2 ∷ 3 ∷ 4 ∷ []))
    ∷ refuses (move 0x35 0x0021 0xFFFF_FFF8 0 0) (start (enabled 2) (1 ∷ 2 ∷ 3 ∷ 4 ∷ [])) 6 1
    -- a window that ends at 2^32
    ∷ done (move 0x34 0x0021 0xFFFF_FFFC 0 0xFFFF_FFF8) (start (enabled 1) (replicate 8 0)) (with-1 0xA_0000_0000 0xB_0000_0002 (enabled 1) (replicate 8 0))
    ∷ []
