-- Further rows, document 01, "Control moves" and "The state": reads, writes, each setting of VPSR, and what a state may hold (12).
use mathlib.Core.List.{List, [], ◌∷◌, ◌++◌}
use Prim.Native.Nat.{ℕ}
use Rattle.demands.specs.Calls.{Call, Lent, read_vlr, read_vcr, read_vmr_low, read_vmr_high, read_vaer, read_vpsr, write_vlr, write_vcr, write_vmr_low, write_vmr_high}
use Rattle.demands.specs.Calls.{write_vpsr}
use Rattle.examples.proofs.Rows.{Row, control, state, done, reads, refuses}

-- control numbers alone
abbrev only : List ℕ → Lent
only numbers = state [] numbers

-- VLR 7, VMR 1111222233334444, VCR 9 and VAER FFFF002F, every bit that it uses; enabled with AEX, and disabled
abbrev on : Lent
on = only (control 7 0x1111_2222_3333_4444 9 0xFFFF_002F 0x81)

abbrev off : Lent
off = only (control 7 0x1111_2222_3333_4444 9 0xFFFF_002F 0x80)

abbrev pub moves : List Row
moves =
    -- "VLR, VCR and each half of VMR are read and written by calls of their own, refused with 3 while VEN is 0"; VPSR and VAER are read even then
    reads read_vlr on 7
    ∷ reads read_vcr on 9
    ∷ reads read_vmr_low on 0x3333_4444
    ∷ reads read_vmr_high on 0x1111_2222
    ∷ reads read_vaer on 0xFFFF_002F
    ∷ reads read_vpsr on 0x81
    ∷ refuses read_vlr off 3 0
    ∷ refuses read_vcr off 3 0
    ∷ refuses read_vmr_low off 3 0
    ∷ refuses read_vmr_high off 3 0
    ∷ reads read_vaer off 0xFFFF_002F
    ∷ reads read_vpsr off 0x80
    ∷ done (write_vlr 64) on (only (control 64 0x1111_2222_3333_4444 9 0xFFFF_002F 0x81))
    ∷ done (write_vcr 64) on (only (control 7 0x1111_2222_3333_4444 64 0xFFFF_002F 0x81))
    ∷ done (write_vmr_low 0x5555_6666) on (only (control 7 0x1111_2222_5555_6666 9 0xFFFF_002F 0x81))
    ∷ done (write_vmr_high 0x5555_6666) on (only (control 7 0x5555_6666_3333_4444 9 0xFFFF_002F 0x81))
    ∷ refuses (write_vmr_low 5) off 3 0
    ∷ refuses (write_vmr_high 5) off 3 0
    -- "VLR or VCR above 64 gets 11", after 3
    ∷ refuses (write_vlr 65) on 11 0
    ∷ refuses (write_vcr 65) on 11 0
    ∷ refuses (write_vlr 65) off 3 0
    ∷ refuses (write_vcr 65) off 3 0
    ∷ []

-- a VPSR write where VAER is 00010001, from VPSR to VAER and VPSR
abbrev writes : (value vpsr vaer vpsr' : ℕ) → Row
writes value vpsr vaer vpsr' = done (write_vpsr value) (only (control 7 5 9 0x0001_0001 vpsr)) (only (control 7 5 9 vaer vpsr'))

-- each of these values gets 11
abbrev refuses_each : List ℕ → List Row
refuses_each [] = []
refuses_each (value ∷ values) = refuses (write_vpsr value) on 11 0 ∷ refuses_each values

abbrev pub settings : List Row
settings =
    -- settings of <3:0>: 0, 1, 2, 3, 4, 8, 9. 0 and 1 are VEN; "a one in bit 1 clears VPSR and VAER"; bits 2 and 3 have no effect
    writes 0 0x81 0x0001_0001 0x80
    ∷ writes 1 0x80 0x0001_0001 0x81
    ∷ writes 2 0x81 0 0
    ∷ writes 3 0x80 0 1
    ∷ writes 4 0x81 0x0001_0001 0x80
    ∷ writes 8 0x81 0x0001_0001 0x80
    ∷ writes 9 0x80 0x0001_0001 0x81
    -- "in bit 7 clears AEX and VAER; VEN then becomes bit 0"
    ∷ writes 0x80 0x81 0 0
    ∷ writes 0x81 0x80 0 1
    ∷ writes 0x83 0x81 0 1
    -- bits 5, 6, 24, 25 and 31 have no effect
    ∷ writes 0x8300_0060 0x81 0x0001_0001 0x80
    ∷ writes 0x8300_0061 0 0x0001_0001 1
    -- never 3
    ∷ refuses (write_vpsr 5) off 11 0
    ∷ []
    -- other settings of <3:0> get 11
    ++ refuses_each (5 ∷ 6 ∷ 7 ∷ 0xA ∷ 0xB ∷ 0xC ∷ 0xD ∷ 0xE ∷ 0xF ∷ [])
    -- and so does a one in <4>, <23:8> or <30:26>
    ++ refuses_each (0x11 ∷ [])
    ++ refuses_each (0x101 ∷ 0x201 ∷ 0x401 ∷ 0x801 ∷ 0x1001 ∷ 0x2001 ∷ 0x4001 ∷ 0x8001 ∷ [])
    ++ refuses_each (0x1_0001 ∷ 0x2_0001 ∷ 0x4_0001 ∷ 0x8_0001 ∷ 0x10_0001 ∷ 0x20_0001 ∷ 0x40_0001 ∷ 0x80_0001 ∷ [])
    ++ refuses_each (0x400_0001 ∷ 0x800_0001 ∷ 0x1000_0001 ∷ 0x2000_0001 ∷ 0x4000_0001 ∷ [])

-- every control move gets 12 where the state is out of range
abbrev out_of_range : (vlr vcr vaer vpsr : ℕ) → Call → Row
out_of_range vlr vcr vaer vpsr call = refuses call (only (control vlr 0 vcr vaer vpsr)) 12 0

abbrev pub ranges : List Row
ranges =
    -- VLR and VCR above 64; VAER bits 4, 6 to 15 and 32; VPSR bits 1 to 6, 8 and 25
    out_of_range 65 0 0 1 read_vlr
    ∷ out_of_range 0 65 0 1 read_vcr
    ∷ out_of_range 0 0 0x10 1 read_vmr_low
    ∷ out_of_range 0 0 0x40 1 read_vmr_high
    ∷ out_of_range 0 0 0x80 1 read_vlr
    ∷ out_of_range 0 0 0x100 1 read_vlr
    ∷ out_of_range 0 0 0x200 1 read_vlr
    ∷ out_of_range 0 0 0x400 1 read_vlr
    ∷ out_of_range 0 0 0x800 1 read_vlr
    ∷ out_of_range 0 0 0x1000 1 read_vlr
    ∷ out_of_range 0 0 0x2000 1 read_vlr
    ∷ out_of_range 0 0 0x4000 1 read_vlr
    ∷ out_of_range 0 0 0x8000 1 read_vaer
    ∷ out_of_range 0 0 0x1_0000_0000 1 read_vpsr
    ∷ out_of_range 0 0 0 3 (write_vlr 1)
    ∷ out_of_range 0 0 0 5 read_vlr
    ∷ out_of_range 0 0 0 9 read_vlr
    ∷ out_of_range 0 0 0 0x11 read_vlr
    ∷ out_of_range 0 0 0 0x21 read_vlr
    ∷ out_of_range 0 0 0 0x41 (write_vcr 1)
    ∷ out_of_range 0 0 0 0x101 (write_vmr_low 1)
    ∷ out_of_range 0 0 0 0x200_0001 (write_vmr_high 1)
    -- 12 comes before 3 and 11, and a VPSR write does not mend a state
    ∷ out_of_range 65 0 0 0 (write_vlr 65)
    ∷ out_of_range 65 0 0 1 (write_vpsr 5)
    ∷ out_of_range 65 0 0 1 (write_vpsr 2)
    ∷ []
