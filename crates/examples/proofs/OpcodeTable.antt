-- Document 01, "Opcodes": the one rule that covers the table, and how many opcodes it accepts, each by one computed test. Assumes nothing.
use Rattle.std.specs.Prelude.{Some, None}
use mathlib.Core.Path.{◌≡◌, refl}
use mathlib.Core.Bool.{Bool, beq, true, not, ◌&&◌, ◌||◌}
use Prim.Native.Nat.{ℕ, zero, suc, ◌+◌, ◌%◌}
use lib.Dec.{eqb, leb}
use Rattle.opcodes.specs.Works.{row_of}
use Rattle.opcodes.specs.Opcodes.{Opcode, opcode_of, is_memory}

-- an accepted opcode moves memory exactly where it is neither from 80 to 8F nor A0 or
-- above, and takes a scalar, or offsets, exactly when odd
abbrev ruled : ℕ → Opcode → Bool
ruled k None = true
ruled k (Some (work, scalar)) =
    beq (is_memory work) (not (leb 0x80 k && leb k 0x8F || leb 0xA0 k)) && beq scalar (eqb (k % 2) 1)

abbrev ruled_below : ℕ → Bool
ruled_below zero = true
ruled_below (suc k) = ruled k (opcode_of k) && ruled_below k

pub one-rule : ruled_below 256 ≡ true
unfolding opcode_of row_of
one-rule = refl

-- document 02, Q-1: "The opcode table then accepts 40"; the other 216 are reserved
abbrev one : Opcode → ℕ
one None = 0
one (Some (work, scalar)) = 1

abbrev accepted_below : ℕ → ℕ
accepted_below zero = 0
accepted_below (suc k) = one (opcode_of k) + accepted_below k

pub accepts-40 : accepted_below 256 ≡ 40
unfolding opcode_of
accepts-40 = refl
