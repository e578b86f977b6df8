-- The loops over elements make what the steps of a work that writes elements make. Assumes nothing.
use mathlib.Core.Path.{◌≡◌, refl, sym, ap, ap₂, ◌∙◌}
use mathlib.Core.Bool.{Bool, true, false, not, beq}
use mathlib.Core.List.{List}
use Prim.Native.Nat.{ℕ, ◌^◌, ◌<◌}
use lib.ListN.{set}
use Rattle.numbers.specs.Choice.{pick}
use Rattle.numbers.specs.Bits.{bit}
use Rattle.numbers.specs.Working.{of_ones}
use Rattle.numbers.specs.Rising.{rising}
use Rattle.numbers.proofs.BitLaws.{bit-complement}
use Rattle.numbers.proofs.SetBits.{ones-carry}
use Rattle.numbers.proofs.Unions.{joins, beside}
use Rattle.numbers.proofs.Tests.{pick-false}
use Rattle.state.specs.declared.Control.{Control}
use Rattle.state.specs.State.{place_of}
use Rattle.state.specs.Elements.{at, matches}
use Rattle.state.specs.Marks.{one_element}
use Rattle.opcodes.specs.declared.Instruction.{Instruction}
use Rattle.opcodes.specs.Opcodes.{writes_mask, in_one_step, ignores_moe}
use Rattle.opcodes.specs.ControlWord.{field_of}
use Rattle.element.specs.declared.Out.{Out}
use Rattle.element.specs.Receives.{result_of}
use Rattle.machine.specs.declared.Effect.{Effect}
use Rattle.machine.specs.Run.{Gathered, Run, run, added, joined}
use Rattle.machine.specs.Step.{first, second, received, register_bit, notes, written, wrote_at, adding, worked}
use Rattle.machine.specs.Iota.{iota_step}
use Rattle.machine.specs.Working.{matched, Lanes, lanes, lane, effected, done_for}
use Rattle.machine.proofs.Gather.{joined-nothing, joined-twice, notes-or}

-- a one of the mask or its complement is a bit that is MTF
pub is-matched : (vmr : ℕ) (mtf : Bool) (i : ℕ) → vmr < 2 ^ 64 → i < 64 → bit (matched vmr mtf) i ≡ matches vmr mtf i
is-matched vmr true i small h = is_true (bit vmr i)
  where
    is_true : (t : Bool) → t ≡ beq t true
    is_true true = refl
    is_true false = refl
is-matched vmr false i small h = bit-complement 64 vmr i small h ∙ is_false (bit vmr i)
  where
    is_false : (t : Bool) → not t ≡ beq t false
    is_false true = refl
    is_false false = refl

module _ (ins : Instruction) (x which : ℕ) (l : List ℕ) (c : Control) (g : Gathered) (word : c.vmr < 2 ^ 64) (set_word : which < 2 ^ 64)
    (no-mask : writes_mask ins ≡ false) (no-iota : in_one_step ins ≡ false)
  where
    abbrev mask : ℕ
    mask = matched c.vmr ins.mtf

    abbrev register : ℕ
    register = register_bit false ins.vc.0

    -- a lane, and beside it the set of the elements that were written
    abbrev turn : ℕ → Lanes × ℕ → Lanes × ℕ
    turn i s = (lane ins x mask i s.0, joins i s.1)

    -- the run, where the loop has come to s
    abbrev reached : Lanes × ℕ → Run
    reached s = run s.0.elements c (joined g (added (notes register s.0.types) ins.vc.0 s.1))

    module _ (i : ℕ) (s : Lanes × ℕ) (h : i < 64) where
      of : Bool → ℕ → Out
      of m d = result_of ins.work ins.exc (field_of ins) m (first ins x s.0.elements i) (second ins s.0.elements i) d

      abbrev out : Out
      out = of (pick (ignores_moe ins) (bit mask i) false) (at s.0.elements ins.vc.0 i)

      receives : received ins x i (reached s) ≡ out
      unfolding received of
      receives =
          ap₂ of
          (ap (λ (t : Bool). pick (ignores_moe ins) t false) (sym (is-matched c.vmr ins.mtf i word h)))
          (pick-false (writes_mask ins) 0 (at s.0.elements ins.vc.0 i) no-mask)

      writes : (v : ℕ) → written ins i v (reached s) ≡ run (set s.0.elements (place_of ins.vc.0 i) v) c (reached s).gathered
      unfolding written
      writes v = pick-false (writes_mask ins) _ _ no-mask

      one : reached (turn i s) ≡ worked ins x i (reached s)
      unfolding worked lane of
      one =
          sym
          (ap (λ (o : Out). adding (added (notes (register_bit (writes_mask ins) ins.vc.0) o.types) ins.vc.0 (wrote_at ins i))
          (written ins i o.value (reached s))) receives
          ∙ ap (λ (t : Bool). adding (added (notes (register_bit t ins.vc.0) out.types) ins.vc.0 (pick t 0 (one_element i)))
          (written ins i out.value (reached s))) no-mask
          ∙ ap (adding (added (notes register out.types) ins.vc.0 (one_element i))) (writes out.value)
          ∙ ap (run (set s.0.elements (place_of ins.vc.0 i) out.value) c)
          (joined-twice g (notes register s.0.types) (notes register out.types) ins.vc.0 s.1 (one_element i)
          ∙ ap (λ (n : ℕ). joined g (added n ins.vc.0 (joins i s.1))) (notes-or register s.0.types out.types)))

    starts : reached (lanes l 0, 0) ≡ run l c g
    unfolding notes
    starts = ap (run l c) (joined-nothing g ins.vc.0)

    pub valued : (l' : List ℕ) (types : ℕ) (e : Effect) → lanes l' types ≡ rising (of_ones (lane ins x mask) which) 64 (lanes l 0)
        → e ≡ record { vmr = c.vmr; vcr = c.vcr; notes = notes register types; wrote = which }
        → effected l' ins e c g ≡ done_for which ins x (run l c g)
    unfolding done_for
    valued l' types e f is =
        ap (λ (d : Effect). effected l' ins d c g) is
        ∙ ap (λ (s : Lanes). reached (s, which)) f
        ∙ ap reached (sym (beside (lane ins x mask) which 64 (lanes l 0) set_word))
        ∙ ones-carry reached turn (worked ins x) which 64 (lanes l 0, 0) (λ i s h. one i s h)
        ∙ ap (rising (of_ones (worked ins x) which) 64) starts
        ∙ sym (pick-false (in_one_step ins) (iota_step ins x (run l c g)) _ no-iota)
