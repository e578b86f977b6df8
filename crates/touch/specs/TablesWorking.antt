-- What the code that binds a queue's positions computes with: for each place the set of the positions so far that read it, or write it (proofs/Noting.antt
-- proves that they give which instructions bind, specs/BindsWorking.antt). No promise of a call cites it.
use Rattle.std.specs.Prelude.{Bool, true, List, ℕ, get_or, set}
use Rattle.std.specs.Int.Bits.{bit_or}
use Rattle.numbers.specs.Choice.{pick}
use Rattle.opcodes.specs.declared.Instruction.{Instruction}
use Rattle.opcodes.specs.Opcodes.{in_one_step, reads_va, reads_vb, reads_mask}
use Rattle.order.specs.SetsWorking.{joined}
use Rattle.touch.specs.BindsWorking.{target}

-- ---- tables: for each place, of which 17 is the count, the set of the positions so far that read it, or write it
abbrev pub set_if : Bool → List ℕ → ℕ → ℕ
set_if t table s = pick t (get_or table s 0) 0

-- position p joins the set of a place
abbrev pub joined_at : Bool → List ℕ → ℕ → ℕ → List ℕ
joined_at t table s p = pick t (set table s (joined (get_or table s 0) p)) table

-- what one position more reads and writes
unfoldable pub readers_with : Instruction → ℕ → List ℕ → List ℕ
readers_with ins p readers =
    joined_at (reads_mask ins) (joined_at (reads_va ins) (joined_at (reads_vb ins) readers ins.vb.0 p) ins.va.0 p) 16 p

unfoldable pub writers_with : Instruction → ℕ → List ℕ → List ℕ
writers_with ins p writers = joined_at (in_one_step ins) (joined_at true writers (target ins) p) 17 p

-- and the positions that it is bound to
unfoldable pub bound_to : Instruction → List ℕ → List ℕ → ℕ
bound_to ins readers writers =
    bit_or
    (bit_or
    (bit_or (get_or writers (target ins) 0)
    (bit_or (bit_or (set_if (reads_vb ins) writers ins.vb.0) (set_if (reads_va ins) writers ins.va.0)) (set_if (reads_mask ins) writers 16)))
    (get_or readers (target ins) 0))
    (set_if (in_one_step ins) writers 17)
