-- A short work records only with EXC: its loop gathers what the elements would record with it, and EXC is looked at once. Assumes nothing.
use mathlib.Core.Path.{◌≡◌, refl, sym, ap, ◌∙◌}
use mathlib.Core.Bool.{Bool, true, false}
use mathlib.Core.List.{List}
use Prim.Native.Nat.{ℕ}
use Rattle.numbers.specs.Choice.{pick}
use Rattle.numbers.specs.Bits.{bit}
use Rattle.numbers.specs.Rising.{rising}
use Rattle.numbers.specs.Working.{of_ones}
use Rattle.numbers.proofs.SetBits.{ones-carry}
use Rattle.state.specs.Elements.{at}
use Rattle.opcodes.specs.declared.Instruction.{Instruction}
use Rattle.opcodes.specs.declared.works.Work.{Work}
use Rattle.element.specs.Receives.{quiet, result_of}
use Rattle.element.specs.Working.{is_short}
use Rattle.machine.proofs.Works.{of-shorts}
use Rattle.machine.specs.Working.{operand_at, Lanes, lanes, landed, lane_of, lane_in, short_lane}

-- without EXC an element receives the same, and nothing is recorded
abbrev Quiet : Work → Type 0
Quiet n = (m : Bool) (a b c : ℕ) → result_of n false 0 m a b c ≡ quiet (result_of n true 0 m a b c).value

without-exc : (work : Work) → is_short work ≡ true → Quiet work
unfolding result_of
without-exc work is =
    of-shorts Quiet work is (search) (search) (search) (search) (search) (search) (search) (search) (search)

-- where EXC is looked at
abbrev gated_by : Bool → Lanes → Lanes
gated_by exc s = lanes s.elements (pick exc s.types 0)

module _ (work : Work) (mask : ℕ) (is : is_short work ≡ true) (ins : Instruction) (x : ℕ) where
  abbrev turn : Bool → ℕ → Lanes → Lanes
  turn exc = short_lane work exc mask ins x

  gates : (exc : Bool) (i : ℕ) (s : Lanes) → gated_by exc (turn true i s) ≡ turn exc i (gated_by exc s)
  unfolding lane_of lane_in
  gates true i s = refl
  gates false i s =
      sym (ap (landed ins.vc.0 i (lanes s.elements 0))
      (without-exc work is (bit mask i) (operand_at ins.scalar x ins.va.0 s.elements i) (at s.elements ins.vb.0 i)
      (at s.elements ins.vc.0 i)))

  none : (exc : Bool) → ◌≡◌ {A = ℕ} (pick exc 0 0) 0
  none true = refl
  none false = refl

  module _ (exc : Bool) (l l' : List ℕ) (types t : ℕ) (g : t ≡ pick exc types 0) where
    pub gated_set : (which : ℕ) → lanes l' types ≡ rising (of_ones (turn true) which) 64 (lanes l 0)
        → lanes l' t ≡ rising (of_ones (turn exc) which) 64 (lanes l 0)
    gated_set which e =
        ap (lanes l') g ∙ ap (gated_by exc) e
        ∙ ones-carry (gated_by exc) (turn true) (turn exc) which 64 (lanes l 0) (λ i s _. gates exc i s)
        ∙ ap (λ (k : ℕ). rising (of_ones (turn exc) which) 64 (lanes l k)) (none exc)
