-- What an instruction touches, as the code works it out. Assumes nothing.
use mathlib.Core.Path.{◌≡◌, sym, ap, ◌∙◌}
use mathlib.Core.Bool.{Bool, true, false, ◌||◌}
use mathlib.Core.List.{List}
use Prim.Native.Nat.{ℕ, ◌*◌, ◌%◌, ◌^◌, ◌<◌}
use native.Mathlib.Omega.{arith}
use lib.Bits.{bit_or, or_zero_r}
use lib.ListN.{get_or, set}
use Rattle.numbers.specs.Choice.{pick}
use Rattle.numbers.proofs.BitLaws.{one_shifted}
use Rattle.opcodes.specs.declared.Instruction.{Instruction}
use Rattle.opcodes.specs.Opcodes.{writes_mask, in_one_step, ignores_moe, reads_va, reads_vb}
use Rattle.opcodes.specs.Working.{Below}
use Rattle.order.specs.SetsWorking.{joined}
use Rattle.touch.specs.BindsWorking.{target}
use Rattle.touch.specs.TablesWorking.{set_if, joined_at, readers_with, writers_with, bound_to}

-- a shift in the code is a power
shifted : (s k : ℕ) → k < 64 → bit_or s (1 * 2 ^ k % 18446744073709551616) ≡ joined s k
shifted s k h = ap (bit_or s) (one_shifted k 64 h)

pub joins_at : (table : List ℕ) (s p : ℕ) → p < 64 → set table s (bit_or (get_or table s 0) (1 * 2 ^ p % 18446744073709551616)) ≡ joined_at true table s p
joins_at table s p h = ap (set table s) (shifted (get_or table s 0) p h)

pub reads_at_lem : (t : Bool) (readers readers' writers : List ℕ) (s p : ℕ) → t ≡ true → readers' ≡ joined_at true readers s p
    → (get_or writers s 0 ≡ set_if t writers s) × (readers' ≡ joined_at t readers s p)
reads_at_lem t readers readers' writers s p e f = (ap (λ (b : Bool). set_if b writers s) (sym e), f ∙ ap (λ (b : Bool). joined_at b readers s p) (sym e))

-- what a position is bound to, of the rows' tests and the sets that were read; t is what it writes
module _ (ins : Instruction) (p t : ℕ) (readers writers : List ℕ) (at : t ≡ target ins) (x y z one : Bool) (b a m : ℕ) (r₁ r₂ r₃ w : List ℕ)
    (takes-vb : x ≡ reads_vb ins) (takes-va : y ≡ reads_va ins) (ignores : z ≡ ignores_moe ins) (is_one : one ≡ in_one_step ins)
    (vb : (b ≡ set_if x writers ins.vb.0) × (r₁ ≡ joined_at x readers ins.vb.0 p))
    (va : (a ≡ set_if y writers ins.va.0) × (r₂ ≡ joined_at y r₁ ins.va.0 p))
    (mask : (m ≡ set_if (ins.moe || z) writers 16) × (r₃ ≡ joined_at (ins.moe || z) r₂ 16 p))
    (joins : w ≡ joined_at true writers t p)
  where
    abbrev bound : ℕ
    bound = bit_or (bit_or (get_or writers t 0) (bit_or (bit_or b a) m)) (get_or readers t 0)

    abbrev Bound : ℕ → List ℕ → Type 0
    Bound v w' = (v ≡ bound_to ins readers writers) × (r₃ ≡ readers_with ins p readers) × (w' ≡ writers_with ins p writers)

    by_one : (v : ℕ) (w' : List ℕ) → v ≡ bit_or bound (set_if one writers 17) → w' ≡ joined_at one w 17 p → Bound v w'
    unfolding bound_to readers_with writers_with
    by_one v w' e g =
        let vb₀ = vb.0 in let vb₁ = vb.1 in let va₀ = va.0 in let va₁ = va.1 in let m₀ = mask.0 in let m₁ = mask.1 in
        (cc, cc, cc)

    pub binds-one : one ≡ true → (w' : List ℕ) → w' ≡ joined_at true w 17 p → Bound (bit_or bound (get_or writers 17 0)) w'
    binds-one e w' g =
        by_one _ w' (ap (λ (u : Bool). bit_or bound (set_if u writers 17)) (sym e)) (g ∙ ap (λ (u : Bool). joined_at u w 17 p) (sym e))

    pub binds-plain : one ≡ false → Bound bound w
    binds-plain e =
        by_one _ w (sym (or_zero_r bound) ∙ ap (λ (u : Bool). bit_or bound (set_if u writers 17)) (sym e)) (ap (λ (u : Bool). joined_at u w 17 p) (sym e))

pub target-mask : (ins : Instruction) (t : Bool) → t ≡ writes_mask ins → t ≡ true → (16 ≡ target ins) × (16 < 17)
target-mask ins t e f = (ap (λ (b : Bool). pick b 16 ins.vc.0) (sym f ∙ e), omega arith)

pub target-register : (ins : Instruction) (t : Bool) → t ≡ writes_mask ins → t ≡ false → Below ins → (ins.vc.0 ≡ target ins) × (ins.vc.0 < 17)
target-register ins t e f s = (ap (λ (b : Bool). pick b 16 ins.vc.0) (sym f ∙ e), let h = s.vc in omega arith)
