-- The control numbers at the end of a run. Assumes nothing.
use native.Mathlib.Omega.{arith}
use mathlib.Core.Bool.{Bool, true, not}
use mathlib.Core.Path.{◌≡◌}
use Prim.Native.Nat.{ℕ}
use lib.Bits.{bit_or}
use Rattle.numbers.specs.Bits.{with_bit}
use Rattle.numbers.specs.Choice.{pick}
use Rattle.state.specs.State.{vpsr_in_range}
use Rattle.state.specs.declared.Control.{Control}
use Rattle.machine.specs.Run.{Run, ended, finished}

-- the control record at its end
abbrev pub end_of : Run → Control
end_of r = (finished r).state.control

pub record RunEnd (r : Run) : Type 0 where
  pub vlr : (end_of r).vlr ≡ r.control.vlr
  pub vmr : (end_of r).vmr ≡ r.control.vmr
  pub vcr : (end_of r).vcr ≡ r.control.vcr
  pub vaer : (end_of r).vaer ≡ bit_or r.control.vaer r.gathered.vaer
  pub vpsr : (end_of r).vpsr ≡ pick r.gathered.recorded (with_bit (with_bit r.control.vpsr 0 0) 7 1) r.control.vpsr

pub ends-run : (r : Run) → RunEnd r
unfolding ended
ends-run r = grind arith

-- VEN cleared and AEX set, of a VPSR in range
pub halts : (v : ℕ) → vpsr_in_range v ≡ true → (t : Bool) → pick (not t) (with_bit (with_bit v 0 0) 7 1) v ≡ pick t v 0x80
halts v ranged t = grind arith
