-- While a run goes on VAER and VPSR stay, and the bit beside the state says whether VAER is to get anything. Assumes nothing.
use native.Mathlib.Omega.{arith}
use mathlib.Core.Bool.{Bool, true, false, not}
use mathlib.Core.Path.{◌≡◌}
use Prim.Native.Nat.{ℕ, zero, suc, ◌%◌}
use lib.Dec.{eqb}
use lib.ListN.{set}
use Rattle.numbers.specs.Bits.{with_bit}
use Rattle.numbers.specs.Choice.{pick}
use Rattle.state.specs.declared.Control.{Control}
use Rattle.state.specs.State.{place_of, with_vmr}
use Rattle.opcodes.specs.declared.Instruction.{Instruction}
use Rattle.opcodes.specs.Opcodes.{writes_mask, in_one_step}
use Rattle.opcodes.specs.Masking.{operated}
use Rattle.machine.specs.Run.{Gathered, Added, Run, run, added, joined}
use Rattle.machine.specs.Step.{received, register_bit, notes, written, wrote_at, adding, worked, element_step}
use Rattle.machine.specs.Iota.{iota_step}
use Rattle.machine.specs.Instruction.{step_of, steps_below, whole_of}
use Rattle.machine.proofs.Gather.{some_or}
use Rattle.touch.specs.Parts.{Queue, instruction_at, scalar_at}
use Rattle.queue.specs.Queue.{straight}

abbrev pub Noted : Gathered → Type 0
Noted g = g.recorded ≡ not (eqb g.vaer 0)

joined-noted : (g : Gathered) (a : Added) → Noted g → Noted (joined g a)
unfolding joined
joined-noted g a e = grind (arith, some_or)

-- a run under way that began with this control record
pub record Going (c : Control) (r : Run) : Type 0 where
  pub gathered : Noted r.gathered
  pub vaer : r.control.vaer ≡ c.vaer
  pub vpsr : r.control.vpsr ≡ c.vpsr

module _ (c : Control) where
  either : (t : Bool) (a b : Run) → Going c a → Going c b → Going c (pick t a b)
  either t a b p q = grind arith

  module _ (ins : Instruction) (scalar : ℕ) where
    worked-on : (i : ℕ) (r : Run) → Going c r → Going c (worked ins scalar i r)
    unfolding worked written
    worked-on i r e = by (writes_mask ins)
      where
        by : (m : Bool) → Going c (adding
            (added (notes (register_bit (writes_mask ins) ins.vc.0) (received ins scalar i r).types) ins.vc.0 (wrote_at ins i))
            (pick m
            (run r.elements (with_vmr r.control (with_bit r.control.vmr i ((received ins scalar i r).value % 2))) r.gathered)
            (run (set r.elements (place_of ins.vc.0 i) (received ins scalar i r).value) r.control r.gathered)))
        by true = record { gathered = joined-noted r.gathered _ e.gathered; vaer = e.vaer; vpsr = e.vpsr }
        by false = record { gathered = joined-noted r.gathered _ e.gathered; vaer = e.vaer; vpsr = e.vpsr }

    step-on : (i : ℕ) (r : Run) → Going c r → Going c (step_of ins scalar i r)
    unfolding step_of element_step iota_step
    step-on i r e =
        either (in_one_step ins) _ _ (record { gathered = joined-noted r.gathered _ e.gathered; vaer = e.vaer; vpsr = e.vpsr })
        (either (operated ins r.control i) (worked ins scalar i r) r (worked-on i r e) e)

    below_on : (n : ℕ) (r : Run) → Going c r → Going c (steps_below n ins scalar r)
    unfolding steps_below
    below_on zero r e = e
    below_on (suc n) r e = step-on n (steps_below n ins scalar r) (below_on n r e)

  pub straight-on : (q : Queue) (n : ℕ) (r : Run) → Going c r → Going c (straight q n r)
  unfolding straight whole_of
  straight-on q zero r e = e
  straight-on q (suc n) r e = below_on (instruction_at q n) (scalar_at q n) _ (straight q n r) (straight-on q n r e)
