-- `take_apart` meets its contract: the first k places of each part are filled. Assumes nothing.
use mathlib.Core.Path.{◌≡◌}
use Prim.Native.Nat.{◌≤◌}
use Rattle.running.specs.Records.{opcode_at, control_word_at, scalar_at}
use Rattle.running.specs.Working.{filled}
use Rattle.running.proofs.records.take_apart.Given as goal

abbrev pub invariant-loop-k : goal.invariant-loop-k
invariant-loop-k l = (l.k ≤ l.n)
    × (l.opcodes ≡ filled l.k (opcode_at l.bytes) l.initial.opcodes)
    × (l.cntrls ≡ filled l.k (control_word_at l.bytes) l.initial.cntrls)
    × (l.scalars ≡ filled l.k (scalar_at l.bytes) l.initial.scalars)
