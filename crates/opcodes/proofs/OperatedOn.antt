-- The set of the elements that an instruction operates on: its ones are those, and none lies at or past VLR. Assumes nothing.
use mathlib.Core.Path.{◌≡◌, refl, sym, ap, ap₂, ◌∙◌}
use mathlib.Core.Bool.{Bool, beq, true, false, not, ◌||◌, ◌&&◌}
use Prim.Native.Nat.{ℕ, ◌≤◌}
use borrow.Author.Tests.{le-ltb}
use lib.Dec.{ltb}
use Rattle.numbers.specs.Bits.{bit}
use Rattle.numbers.specs.Working.{chosen}
use Rattle.state.specs.declared.Control.{Control}
use Rattle.state.specs.Elements.{matches}
use Rattle.opcodes.specs.declared.Instruction.{Instruction}
use Rattle.opcodes.specs.Opcodes.{ignores_moe}
use Rattle.opcodes.specs.Masking.{operated}
use Rattle.opcodes.specs.Working.{OperatedSet}

same-choice : (moe m x : Bool) → (not moe || m || x) ≡ (not (moe && not m) || x)
same-choice true true x = refl
same-choice true false x = refl
same-choice false m x = refl

module _ (ins : Instruction) (vlr vmr all : ℕ) (set : OperatedSet ins vlr vmr all) where
  -- so it is for every control record with that VLR and that bit of the mask
  pub is-operated : (n : ℕ) (c : Control) → c.vlr ≡ vlr → bit c.vmr n ≡ bit vmr n → operated ins c n ≡ bit all n
  unfolding operated
  is-operated n c e f =
      ap₂ (λ (v : ℕ) (b : Bool). ltb n v && (not ins.moe || ignores_moe ins || beq b ins.mtf)) e f
      ∙ ap (λ (t : Bool). ltb n vlr && t) (same-choice ins.moe (ignores_moe ins) (matches vmr ins.mtf n))
      ∙ sym (set.ones n)

  pub none-past : (n : ℕ) → vlr ≤ n → bit all n ≡ false
  none-past n h = set.ones n ∙ ap (λ (t : Bool). t && chosen (ins.moe && not (ignores_moe ins)) ins.mtf vmr n) (le-ltb n vlr h)
