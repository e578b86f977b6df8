-- Document 01, "The state".
use Rattle.std.specs.Prelude.{Bool, ◌&&◌, List, ℕ, ◌+◌, ◌*◌, ◌/◌, ◌%◌, ◌^◌, ltb, leb, eqb}
use Rattle.state.specs.declared.Control.{Control}

-- 16 registers of 64 elements, as one list, and the control record
pub record State : Type 0 where
  pub elements : List ℕ
  pub control : Control

abbrev pub state : List ℕ → Control → State
state l c = record { elements = l; control = c }

-- the control record with one of its numbers replaced
abbrev pub with_vlr : Control → ℕ → Control
with_vlr c v = record { vlr = v; vmr = c.vmr; vcr = c.vcr; vaer = c.vaer; vpsr = c.vpsr }

abbrev pub with_vmr : Control → ℕ → Control
with_vmr c v = record { vlr = c.vlr; vmr = v; vcr = c.vcr; vaer = c.vaer; vpsr = c.vpsr }

abbrev pub with_vcr : Control → ℕ → Control
with_vcr c v = record { vlr = c.vlr; vmr = c.vmr; vcr = v; vaer = c.vaer; vpsr = c.vpsr }

abbrev pub with_vaer : Control → ℕ → Control
with_vaer c v = record { vlr = c.vlr; vmr = c.vmr; vcr = c.vcr; vaer = v; vpsr = c.vpsr }

abbrev pub with_vpsr : Control → ℕ → Control
with_vpsr c v = record { vlr = c.vlr; vmr = c.vmr; vcr = c.vcr; vaer = c.vaer; vpsr = v }

-- where element e of register r stands in that list
abbrev pub place_of : ℕ → ℕ → ℕ
place_of r e = r * 64 + e

-- VLR and VCR, 0 to 64
abbrev pub length_in_range : ℕ → Bool
length_in_range n = leb n 64

-- VAER uses bits 0, 1, 2, 3, 5 and 16+n for Vn: bit 4, bits 6 to 15 and all from 32 on are zero
abbrev pub vaer_in_range : ℕ → Bool
vaer_in_range v = ltb v (2 ^ 32) && eqb (v / 2 ^ 4 % 2) 0 && eqb (v / 2 ^ 6 % 2 ^ 10) 0

-- VPSR uses bit 0 (VEN) and bit 7 (AEX): bits 1 to 6 and all from 8 on are zero
abbrev pub vpsr_in_range : ℕ → Bool
vpsr_in_range v = ltb v (2 ^ 8) && eqb (v / 2 % 2 ^ 6) 0

-- a state that breaks this gets 12
unfoldable pub in_range : Control → Bool
in_range c = length_in_range c.vlr && length_in_range c.vcr && vaer_in_range c.vaer && vpsr_in_range c.vpsr

-- VEN
abbrev pub enabled : Control → Bool
enabled c = eqb (c.vpsr % 2) 1
