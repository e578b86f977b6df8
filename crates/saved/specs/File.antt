-- Document 01, "Saved state and readings": 1,029 records of 16 bytes, 16,464 in all.
use Rattle.std.specs.Prelude.{true, List, [], ◌++◌, ◌≡◌, ℕ, zero, suc, ◌^◌, ◌<◌, ltb, eqb, length, get_or}
use Rattle.numbers.specs.Bytes.{bytes_of}
use Rattle.numbers.specs.Choice.{pick}
use Rattle.state.specs.State.{State, in_range}

-- records 0 to 1,023 are the elements; then VLR, VMR, VCR, VAER, VPSR
unfoldable pub contents_of : State → ℕ → ℕ
contents_of s k =
    pick (ltb k 1024) (get_or s.elements k 0)
    (pick (eqb k 1024) s.control.vlr
    (pick (eqb k 1025) s.control.vmr
    (pick (eqb k 1026) s.control.vcr
    (pick (eqb k 1027) s.control.vaer s.control.vpsr))))

-- record number in 2 bytes, 6 zero bytes, contents in 8, little-endian
unfoldable pub record_bytes : ℕ → ℕ → List ℕ
record_bytes number contents = bytes_of 2 number ++ (bytes_of 6 0 ++ bytes_of 8 contents)

-- the first n records
unfoldable pub records : ℕ → State → List ℕ
records zero s = []
records (suc n) s = records n s ++ record_bytes n (contents_of s n)

-- the file of a state
unfoldable pub file_of : State → List ℕ
file_of s = records 1029 s

-- a state that the machine can hold: 1,024 elements and a mask of 64 bits, and a control record in range
pub record Held (s : State) : Type 0 where
  pub count : length s.elements ≡ 1024
  pub elements-fit : (i : ℕ) → get_or s.elements i 0 < 2 ^ 64
  pub mask_fits : s.control.vmr < 2 ^ 64
  pub ranged : in_range s.control ≡ true
