-- The work of the set of all elements that an instruction operates on is the instruction, and of one of them its step. Assumes nothing.
use mathlib.Core.Path.{◌≡◌, refl, sym, ap, ◌∙◌}
use mathlib.Core.Bool.{Bool, true, false}
use Prim.Native.Nat.{ℕ, zero, suc, ◌%◌, ◌≤◌, ◌<◌}
use native.Mathlib.Nat.{mod-lt, le_refl}
use native.Mathlib.Omega.{arith}
use borrow.Author.Tests.{ltb-true}
use lib.ListN.{set}
use lib.Dec.{ltb}
use Rattle.numbers.specs.Choice.{pick}
use Rattle.numbers.specs.Bits.{bit, with_bit}
use Rattle.numbers.specs.Working.{OnesBelow, of_ones}
use Rattle.numbers.specs.Rising.{rising}
use Rattle.numbers.proofs.BitLaws.{bit_kept, bit-replaced, dec_eq}
use Rattle.numbers.proofs.Sets.{bit-none}
use Rattle.numbers.proofs.Rising.{settles}
use Rattle.numbers.proofs.SetBits.{single}
use Rattle.numbers.proofs.Tests.{true-not-false, and_left, pick_true, pick-false}
use Rattle.state.specs.declared.Control.{Control}
use Rattle.state.specs.State.{place_of, with_vmr}
use Rattle.opcodes.specs.declared.Instruction.{Instruction}
use Rattle.opcodes.specs.Opcodes.{writes_mask, in_one_step}
use Rattle.machine.specs.Run.{Run, run}
use Rattle.machine.specs.Step.{received, written, worked, element_step}
use Rattle.opcodes.specs.Masking.{operated}
use Rattle.opcodes.specs.Working.{OperatedSet}
use Rattle.opcodes.proofs.OperatedOn.{is-operated, none-past}
use Rattle.machine.specs.Iota.{iota_step}
use Rattle.machine.specs.Instruction.{step_of, steps_below, whole_of}
use Rattle.machine.specs.Working.{done_for}

-- IOTA's one step is the whole instruction
one-step : (ins : Instruction) (scalar : ℕ) (r : Run) → in_one_step ins ≡ true → iota_step ins scalar r ≡ whole_of ins scalar r
unfolding whole_of steps_below step_of
one-step ins scalar r e =
    sym
    (ap (λ (t : Bool). steps_below (pick t 1 r.control.vlr) ins scalar r) e
    ∙ ap (λ (t : Bool). pick t (iota_step ins scalar r) (element_step ins scalar 0 r)) e)

-- ---- the work of element i leaves VLR as it was, and of VMR all but bit i
module _ (ins : Instruction) (scalar i : ℕ) (r : Run) where
  abbrev writes : Bool → ℕ → Run
  writes t v =
      pick t
      (run r.elements (with_vmr r.control (with_bit r.control.vmr i (v % 2))) r.gathered)
      (run (set r.elements (place_of ins.vc.0 i) v) r.control r.gathered)

  written-vlr : (t : Bool) (v : ℕ) → (writes t v).control.vlr ≡ r.control.vlr
  written-vlr true v = refl
  written-vlr false v = refl

  written-bit : (t : Bool) (v j : ℕ) → (j ≡ i → ⊥) → bit (writes t v).control.vmr j ≡ bit r.control.vmr j
  written-bit true v j other = bit_kept r.control.vmr i (v % 2) (mod-lt v (omega arith)) j other
  written-bit false v j other = refl

  keeps-vlr : (worked ins scalar i r).control.vlr ≡ r.control.vlr
  unfolding worked written
  keeps-vlr = written-vlr (writes_mask ins) (received ins scalar i r).value

  keeps-bit : (j : ℕ) → (j ≡ i → ⊥) → bit (worked ins scalar i r).control.vmr j ≡ bit r.control.vmr j
  unfolding worked written
  keeps-bit j other = written-bit (writes_mask ins) (received ins scalar i r).value j other

-- ---- of the elements below n: VLR stays, and so do the mask bits from n on
module _ (ins : Instruction) (scalar which : ℕ) (r : Run) where
  abbrev after : ℕ → Run
  after n = rising (of_ones (worked ins scalar) which) n r

  stays-vlr : (n : ℕ) → (after n).control.vlr ≡ r.control.vlr
  unfolding rising of_ones
  stays-vlr zero = refl
  stays-vlr (suc n) = at (bit which n) ∙ stays-vlr n
    where
      at : (t : Bool) → (pick t (worked ins scalar n (after n)) (after n)).control.vlr ≡ (after n).control.vlr
      at true = keeps-vlr ins scalar n (after n)
      at false = refl

  stays-bit : (n j : ℕ) → n ≤ j → bit (after n).control.vmr j ≡ bit r.control.vmr j
  unfolding rising of_ones
  stays-bit zero j h = refl
  stays-bit (suc n) j h = at (bit which n) ∙ stays-bit n j (omega arith)
    where
      at : (t : Bool) → bit (pick t (worked ins scalar n (after n)) (after n)).control.vmr j ≡ bit (after n).control.vmr j
      at true = keeps-bit ins scalar n (after n) j (λ e. omega arith)
      at false = refl

-- ---- the set of the elements that an instruction operates on
module _ (ins : Instruction) (scalar all : ℕ) (r : Run) (short : r.control.vlr ≤ 64) where
  abbrev Operated : Type 0
  Operated = OperatedSet ins r.control.vlr r.control.vmr all

  module _ (set : Operated) where
    -- each step finds its element operated on exactly where the set has it
    operated-here : (n : ℕ) (c : Control) → c.vlr ≡ r.control.vlr → bit c.vmr n ≡ bit r.control.vmr n
        → operated ins c n ≡ bit all n
    operated-here = is-operated ins r.control.vlr r.control.vmr all set

    module _ (no-iota : in_one_step ins ≡ false) where
      of-element : (n : ℕ) (x : Run) → step_of ins scalar n x ≡ element_step ins scalar n x
      unfolding step_of
      of-element n x = pick-false (in_one_step ins) (iota_step ins scalar x) (element_step ins scalar n x) no-iota

      -- the steps of the elements below n: the work of those of them that are operated on
      same-steps : (n : ℕ) → steps_below n ins scalar r ≡ rising (of_ones (worked ins scalar) all) n r
      unfolding steps_below rising of_ones element_step
      same-steps zero = refl
      same-steps (suc n) =
          ap (step_of ins scalar n) (same-steps n)
          ∙ of-element n here
          ∙ ap (λ (t : Bool). pick t (worked ins scalar n here) here)
          (operated-here n here.control (stays-vlr ins scalar all r n) (stays-bit ins scalar all r n n (le_refl n)))
        where
          here : Run
          here = after ins scalar all r n

      all-steps : rising (of_ones (worked ins scalar) all) 64 r ≡ whole_of ins scalar r
      unfolding whole_of of_ones
      all-steps =
          sym (settles (of_ones (worked ins scalar) all) (after ins scalar all r vlr) r vlr 64 short
          (λ j h _. pick-false (bit all j) (worked ins scalar j (after ins scalar all r vlr)) (after ins scalar all r vlr)
          (none-past ins vlr r.control.vmr all set j h)) refl)
          ∙ sym (same-steps vlr)
          ∙ ap (λ (t : Bool). steps_below (pick t 1 vlr) ins scalar r) (sym no-iota)
        where
          vlr : ℕ
          vlr = r.control.vlr

    -- the step of one element: its work, or nothing
    module _ (i : ℕ) (no-iota : in_one_step ins ≡ false) where
      its-step : (t : Bool) → bit all i ≡ t → pick t (worked ins scalar i r) r ≡ step_of ins scalar i r
      unfolding element_step
      its-step t e = sym (of-element no-iota i r ∙ ap (λ (u : Bool). pick u (worked ins scalar i r) r) (operated-here i r.control refl refl ∙ e))

      pub taken : bit all i ≡ true → worked ins scalar i r ≡ step_of ins scalar i r
      taken e = its-step true e

      pub kept : bit all i ≡ false → r ≡ step_of ins scalar i r
      kept e = its-step false e

    -- all of them are the whole instruction
    pub whole : done_for all ins scalar r ≡ whole_of ins scalar r
    unfolding done_for
    whole = at (in_one_step ins) refl
      where
        at : (t : Bool) → in_one_step ins ≡ t → pick t (iota_step ins scalar r) (rising (of_ones (worked ins scalar) all) 64 r) ≡ whole_of ins scalar r
        at true e = one-step ins scalar r e
        at false e = all-steps e

-- the work of one element
pub one-done : (ins : Instruction) (scalar i : ℕ) (r : Run) → i < 64 → in_one_step ins ≡ false → done_for (with_bit 0 i 1) ins scalar r ≡ worked ins scalar i r
unfolding done_for
one-done ins scalar i r h no-iota =
    pick-false (in_one_step ins) (iota_step ins scalar r) _ no-iota
    ∙ single (worked ins scalar) r i (with_bit 0 i 1) h (bit-replaced 0 i 1 (omega arith)) (λ j _ e. only j e (dec_eq j i))
  where
    only : (j : ℕ) → bit (with_bit 0 i 1) j ≡ true → Dec (j ≡ i) → j ≡ i
    only j e (yes q) = q
    only j e (no q) = absurd (true-not-false (sym (bit-none j) ∙ sym (bit_kept 0 i 1 (omega arith) j q) ∙ e))

-- IOTA's one step
pub iota-done : (ins : Instruction) (scalar i which : ℕ) (r : Run) → in_one_step ins ≡ true → done_for which ins scalar r ≡ step_of ins scalar i r
unfolding done_for step_of
iota-done ins scalar i which r e = pick_true (in_one_step ins) _ _ e ∙ sym (pick_true (in_one_step ins) _ _ e)

-- a set below n lies below n
pub below : (n : ℕ) (choice : ℕ → Bool) (which : ℕ) → OnesBelow n choice which → (j : ℕ) → bit which j ≡ true → j < n
below n choice which set j g = ltb-true j n (and_left (ltb j n) (choice j) (sym (set.ones j) ∙ g))
