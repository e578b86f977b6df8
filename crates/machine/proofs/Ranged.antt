-- Whatever an instruction does, a control record in range stays in range; and after a run that recorded something the processor is disabled.
-- Assumes nothing.
use mathlib.Core.Path.{◌≡◌, refl, ap, ◌∙◌}
use mathlib.Core.Bool.{Bool, true, false}
use Prim.Native.Nat.{ℕ, zero, suc, ◌%◌, ◌<◌}
use native.Mathlib.Omega.{arith}
use lib.Dec.{eqb}
use lib.Bits.{bit_or}
use Rattle.numbers.specs.Choice.{pick}
use Rattle.state.specs.declared.Control.{Control}
use Rattle.state.specs.State.{vaer_in_range, enabled, with_vaer}
use Rattle.state.proofs.Ranges.{Ranged, vaer-or, vaer-register, stopped as stopped-status}
use Rattle.opcodes.specs.declared.Instruction.{Instruction}
use Rattle.element.proofs.Types.{types-in-range}
use Rattle.opcodes.specs.Opcodes.{writes_mask, in_one_step}
use Rattle.machine.specs.Run.{Run, stopped, joined, ended}
use Rattle.machine.specs.Step.{received, register_bit, notes, written, worked, element_step}
use Rattle.opcodes.specs.Masking.{operated}
use Rattle.machine.specs.Iota.{iota_step}
use Rattle.machine.specs.Instruction.{step_of, steps_below, step_count, whole_of}
use Rattle.machine.proofs.IotaLaws.{matching-le}

pub record InRange (r : Run) : Type 0 where
  pub control : Ranged r.control
  pub gathered : vaer_in_range r.gathered.vaer ≡ true

either : (t : Bool) (a b : Run) → InRange a → InRange b → InRange (pick t a b)
either true a b x y = x
either false a b x y = y

-- what VAER gets of an element
notes-ranged : (compare : Bool) (vc t : ℕ) → vc < 16 → vaer_in_range t ≡ true → vaer_in_range (notes (register_bit compare vc) t) ≡ true
unfolding notes
notes-ranged compare vc t h e = go (eqb t 0)
  where
    of : (c : Bool) → vaer_in_range (register_bit c vc) ≡ true
    of true = refl
    of false = vaer-register vc h

    go : (b : Bool) → vaer_in_range (pick b 0 (bit_or t (register_bit compare vc))) ≡ true
    go true = refl
    go false = vaer-or t (register_bit compare vc) e (of compare)

module _ (ins : Instruction) (scalar : ℕ) (vc : ins.vc.0 < 16) where
  written-ranged : (i value : ℕ) (r : Run) → InRange r → InRange (written ins i value r)
  unfolding written
  written-ranged i value r g =
      let c = g.control in
      either (writes_mask ins) _ _
      (record { control = record { vlr = c.vlr; vcr = c.vcr; vaer = c.vaer; vpsr = c.vpsr }; gathered = g.gathered })
      (record { control = c; gathered = g.gathered })

  worked-ranged : (i : ℕ) (r : Run) → InRange r → InRange (worked ins scalar i r)
  unfolding worked received joined
  worked-ranged i r g =
      let o = received ins scalar i r in
      let w = written-ranged i o.value r g in
      let t : vaer_in_range o.types ≡ true = types-in-range ins.work ins.exc _ _ _ _ _ in
      let n = notes (register_bit (writes_mask ins) ins.vc.0) o.types in
      record {
        control = w.control;
        gathered = vaer-or (written ins i o.value r).gathered.vaer n w.gathered (notes-ranged (writes_mask ins) ins.vc.0 o.types vc t);
      }

  iota-ranged : (r : Run) → InRange r → InRange (iota_step ins scalar r)
  unfolding iota_step joined
  iota-ranged r g =
      let m = matching-le r.control.vmr ins.mtf r.control.vlr in
      let c = g.control in
      let v = c.vlr in
      record {
        control = record { vlr = c.vlr; vcr = omega arith; vaer = c.vaer; vpsr = c.vpsr };
        gathered = vaer-or r.gathered.vaer 0 g.gathered refl;
      }

  pub step-ranged : (i : ℕ) (r : Run) → InRange r → InRange (step_of ins scalar i r)
  unfolding step_of element_step
  step-ranged i r g =
      either (in_one_step ins) _ _ (iota-ranged r g)
      (either (operated ins r.control i) _ _ (worked-ranged i r g) g)

  below-ranged : (n : ℕ) (r : Run) → InRange r → InRange (steps_below n ins scalar r)
  unfolding steps_below
  below-ranged zero r g = g
  below-ranged (suc n) r g = step-ranged n (steps_below n ins scalar r) (below-ranged n r g)

  pub whole-ranged : (r : Run) → InRange r → InRange (whole_of ins scalar r)
  unfolding whole_of
  whole-ranged r g = below-ranged (step_count ins r.control.vlr) r g

-- ---- the end of a run
module _ (r : Run) (g : InRange r) where
  abbrev noted : Control
  noted = with_vaer r.control (bit_or r.control.vaer r.gathered.vaer)

  noted-ranged : Ranged noted
  noted-ranged =
      let c = g.control in
      let v = vaer-or r.control.vaer r.gathered.vaer c.vaer g.gathered in
      record { vlr = c.vlr; vcr = c.vcr; vaer = v; vpsr = c.vpsr }

  pub ended-ranged : Ranged (ended r.control r.gathered.vaer r.gathered.recorded)
  unfolding ended
  ended-ranged = at r.gathered.recorded noted-ranged
    where
      at : (t : Bool) → Ranged noted → Ranged (stopped t noted)
      at true n = record { vlr = n.vlr; vcr = n.vcr; vaer = n.vaer; vpsr = rw (stopped-status noted.vpsr n.vpsr) refl }
      at false n = n

  pub ended-disabled : r.gathered.recorded ≡ true → enabled (ended r.control r.gathered.vaer r.gathered.recorded) ≡ false
  unfolding ended
  ended-disabled e = ap (λ (t : Bool). enabled (stopped t noted)) e ∙ ap (λ (v : ℕ). eqb (v % 2) 1) (stopped-status noted.vpsr noted-ranged.vpsr)
