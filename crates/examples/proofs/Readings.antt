-- Further rows, document 01, "Saved state and readings".
use Rattle.std.specs.Prelude.{Err}
use mathlib.Core.List.{List, [], ◌∷◌, ◌++◌}
use Prim.Native.Nat.{ℕ, zero, suc, ◌/◌, ◌%◌}
use lib.ListN.{replicate}
use Rattle.state.specs.declared.answer.Refusal.TheVariants.{OrderRefused}
use Rattle.demands.specs.Calls.{Lent, lent, reading, save, load, list_state, list_file, list_answer, print_run}
use Rattle.examples.proofs.Rows.{Row, puts, v, holding, enabled, control, state, state_and, a4, done, refuses, marks_none}

-- V15[63] holds a word, and *kind_read and *bits are these
abbrev word : (w kind bits : ℕ) → Lent
word w kind bits = lent (holding (v 15 63 w ∷ [])) (enabled 1) a4 [] kind bits

-- a reading of it, over *kind_read 9 and *bits A5
abbrev shows : (kind w kind_read bits : ℕ) → Row
shows kind w kind_read bits = done (reading 15 63 kind) (word w 9 0xA5) (word w kind_read bits)

abbrev refuses_field : (register element kind : ℕ) → Row
refuses_field register element kind = refuses (reading register element kind) (word 0x4080 9 0xA5) 13 0

abbrev pub readings : List Row
readings =
    -- "An F_floating reading equals its binary64 number exactly": 1, -2.5, the largest and the smallest, with every bit of the fraction
    shows 0 0x4080 0 0x3FF0_0000_0000_0000
    ∷ shows 0 0xC120 0 0xC004_0000_0000_0000
    ∷ shows 0 0xFFFF_7FFF 0 0x47DF_FFFF_E000_0000
    ∷ shows 0 0xFFFF_FFFF 0 0xC7DF_FFFF_E000_0000
    ∷ shows 0 0x0080 0 0x37F0_0000_0000_0000
    ∷ shows 0 0xFFFF_00FF 0 0x37FF_FFFF_E000_0000
    ∷ shows 0 0x0001_0080 0 0x37F0_0000_2000_0000
    -- "zero is positive", for every fraction; only <31:0> are read
    ∷ shows 0 0 0 0
    ∷ shows 0 0xFFFF_007F 0 0
    ∷ shows 0 0x9_0000_4080 0 0x3FF0_0000_0000_0000
    -- "a reserved operand with its code (bits <3:0>)"
    ∷ shows 0 0x800F 2 15
    ∷ shows 0 0x8008 2 8
    ∷ shows 0 0x8004 2 4
    ∷ shows 0 0xFFFF_807A 2 10
    -- a longword
    ∷ shows 1 0x9_FFFF_FFFE 1 0xFFFF_FFFE
    ∷ shows 1 0x800F 1 0x800F
    -- "Another kind, a register over 15 or an element over 63 gets 13", and they are kept apart: V1[2] is not V2[1]
    ∷ refuses_field 15 63 2
    ∷ refuses_field 16 63 0
    ∷ refuses_field 15 64 0
    ∷ refuses_field 0 1023 0
    ∷ done (reading 1 2 1) (lent (holding (v 1 2 5 ∷ v 2 1 6 ∷ [])) (enabled 1) [] [] 0 0) (lent (holding (v 1 2 5 ∷ v 2 1 6 ∷ [])) (enabled 1) [] [] 1 5)
    ∷ []

-- a file's record: its number, a filler byte and its contents, of which two bytes may not be zero, before other records
abbrev entry : (number filler contents : ℕ) → List ℕ → List ℕ
entry number filler contents rest =
    number % 256 ∷ number / 256 ∷ 0 ∷ 0 ∷ 0 ∷ 0 ∷ 0 ∷ filler ∷ contents % 256 ∷ contents / 256 ∷ 0 ∷ 0 ∷ 0 ∷ 0 ∷ 0 ∷ 0 ∷ rest

-- so many records of zero contents from a number on
abbrev blank : (count number : ℕ) → List ℕ → List ℕ
blank zero number rest = rest
blank (suc count) number rest = entry number 0 0 (blank count (suc number) rest)

-- the file of V5[3] = 1234, VLR 4, VMR 5678, VCR 3, VAER 21 and VPSR 81: record 5*64+3, and those from 1024 on
abbrev whole : List ℕ → List ℕ
whole rest =
    blank 323 0 (entry 323 0 0x1234 (blank 700 324 (entry 1024 0 4 (entry 1025 0 0x5678 (entry 1026 0 3 (entry 1027 0 0x21 (entry 1028 0 0x81 rest)))))))

abbrev refuses_file : List ℕ → (number : ℕ) → Row
refuses_file file number = refuses (load file) (state (v 0 0 4 ∷ []) (enabled 1)) 10 number

abbrev pub files : List Row
files =
    -- "A file is refused at its first record that is missing, cut, .. misnumbered, with a filler byte not zero"
    refuses_file (entry 0 0 1 []) 1
    ∷ refuses_file (entry 0 0 1 (1 ∷ 0 ∷ [])) 1
    ∷ refuses_file (entry 1 0 1 (entry 1 0 1 [])) 0
    ∷ refuses_file (entry 0 0 1 (entry 1 5 1 [])) 1
    -- saving, into 16,466 bytes: "bytes beyond 16,464 are kept"
    ∷ marks_none save (state_and (v 5 3 0x1234 ∷ []) (control 4 0x5678 3 0x21 0x81) (replicate 16466 9))
    (state_and (v 5 3 0x1234 ∷ []) (control 4 0x5678 3 0x21 0x81) (whole (9 ∷ 9 ∷ [])))
    -- "Saving into less than 16,464 bytes gets 10 with the first record that has no room, and writes nothing"
    ∷ refuses save (state_and (v 0 0 4 ∷ []) (enabled 1) []) 10 0
    ∷ refuses save (state_and (v 0 0 4 ∷ []) (enabled 1) (replicate 16463 7)) 10 1028
    ∷ []

-- ---- texts, in ASCII: a call that prints gives their length, and leaves them at the start of the lent bytes, here 7s
-- n digits 0
abbrev zeros : ℕ → List ℕ
zeros n = replicate n 48

-- document 01's listing, of V5[3] = 7, VLR = 4 and VEN = 1: V05[03] 0000000000000007, VLR 4, VMR 0000000000000000, VCR 0, VAER 00000000, VPSR 00000001
abbrev listing : List ℕ
listing =
    (86 ∷ 48 ∷ 53 ∷ 91 ∷ 48 ∷ 51 ∷ 93 ∷ 32 ∷ []) ++ zeros 15 ++ (55 ∷ 10 ∷ [])
    ++ (86 ∷ 76 ∷ 82 ∷ 32 ∷ 52 ∷ 10 ∷ [])
    ++ (86 ∷ 77 ∷ 82 ∷ 32 ∷ []) ++ zeros 16 ++ (10 ∷ [])
    ++ (86 ∷ 67 ∷ 82 ∷ 32 ∷ 48 ∷ 10 ∷ [])
    ++ (86 ∷ 65 ∷ 69 ∷ 82 ∷ 32 ∷ []) ++ zeros 8 ++ (10 ∷ [])
    ++ (86 ∷ 80 ∷ 83 ∷ 82 ∷ 32 ∷ []) ++ zeros 7 ++ (49 ∷ 10 ∷ [])

-- that of V15[63] = 123456789ABCDEF0, VLR = 64, VMR = FEDCBA9876543210, VCR = 10, VAER = FFFF002F and VPSR = 81
abbrev listing' : List ℕ
listing' =
    (86 ∷ 49 ∷ 53 ∷ 91 ∷ 54 ∷ 51 ∷ 93 ∷ 32 ∷ 49 ∷ 50 ∷ 51 ∷ 52 ∷ 53 ∷ 54 ∷ 55 ∷ 56 ∷ 57 ∷ 65 ∷ 66 ∷ 67 ∷ 68 ∷ 69 ∷ 70 ∷ 48 ∷ 10 ∷ [])
    ++ (86 ∷ 76 ∷ 82 ∷ 32 ∷ 54 ∷ 52 ∷ 10 ∷ [])
    ++ (86 ∷ 77 ∷ 82 ∷ 32 ∷ 70 ∷ 69 ∷ 68 ∷ 67 ∷ 66 ∷ 65 ∷ 57 ∷ 56 ∷ 55 ∷ 54 ∷ 53 ∷ 52 ∷ 51 ∷ 50 ∷ 49 ∷ 48 ∷ 10 ∷ [])
    ++ (86 ∷ 67 ∷ 82 ∷ 32 ∷ 49 ∷ 48 ∷ 10 ∷ [])
    ++ (86 ∷ 65 ∷ 69 ∷ 82 ∷ 32 ∷ 70 ∷ 70 ∷ 70 ∷ 70 ∷ 48 ∷ 48 ∷ 50 ∷ 70 ∷ 10 ∷ [])
    ++ (86 ∷ 80 ∷ 83 ∷ 82 ∷ 32 ∷ 48 ∷ 48 ∷ 48 ∷ 48 ∷ 48 ∷ 48 ∷ 56 ∷ 49 ∷ 10 ∷ [])

-- room of so many bytes with a text at its start, and the state of the first listing
abbrev room : List ℕ → ℕ → Lent
room text rest = state_and (v 5 3 7 ∷ []) (enabled 4) (text ++ replicate rest 7)

abbrev pub texts : List Row
texts =
    -- the listing of a state, 86 bytes of 25,663
    puts list_state (room [] 25663) (0, 86) (room listing 25577)
    -- "Hex digits are capitals; register and element are two decimal digits"
    ∷ puts list_state (state_and (v 15 63 0x1234_5678_9ABC_DEF0 ∷ []) (control 64 0xFEDC_BA98_7654_3210 10 0xFFFF_002F 0x81) (replicate 25663 7)) (0, 88)
    (state_and (v 15 63 0x1234_5678_9ABC_DEF0 ∷ []) (control 64 0xFEDC_BA98_7654_3210 10 0xFFFF_002F 0x81) (listing' ++ replicate 25575 7))
    -- "A refused file prints only `bad record ` and the number": 0; a run of it, 10 0
    ∷ puts (list_file []) (room [] 25663) (0, 13) (room (98 ∷ 97 ∷ 100 ∷ 32 ∷ 114 ∷ 101 ∷ 99 ∷ 111 ∷ 114 ∷ 100 ∷ 32 ∷ 48 ∷ 10 ∷ []) 25650)
    ∷ puts (print_run []) (room [] 25705) (0, 5) (room (49 ∷ 48 ∷ 32 ∷ 48 ∷ 10 ∷ []) 25700)
    -- the line of an answer, 9 128
    ∷ puts (list_answer (Err (OrderRefused 128))) (room [] 42) (0, 6) (room (57 ∷ 32 ∷ 49 ∷ 50 ∷ 56 ∷ 10 ∷ []) 36)
    -- with less room than every text of its kind takes, 10, and nothing is written
    ∷ refuses list_state (room [] 25662) 10 0
    ∷ refuses (list_file []) (room [] 25662) 10 0
    ∷ refuses (print_run []) (room [] 25704) 10 0
    ∷ refuses (list_answer (Err (OrderRefused 128))) (room [] 41) 10 0
    ∷ []
