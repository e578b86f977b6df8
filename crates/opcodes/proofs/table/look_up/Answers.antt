-- `look_up` meets its contract: the constant is the table that passed the test. Assumes nothing.
use Rattle.std.proofs.Common.{rules}
use Rattle.opcodes.specs.Opcodes.{opcode_of}
use Rattle.opcodes.proofs.Rule.{work, looked-up-reserved, looked-up-accepted}
use Rattle.opcodes.proofs.table.look_up.Goals as goal

pub returns-then-number-eq0 : goal.returns-then-number-eq0
unfolding work opcode_of
returns-then-number-eq0 c = search (looked-up-reserved, rules)

pub returns : goal.returns
unfolding work opcode_of
returns c = search (looked-up-accepted, rules)
