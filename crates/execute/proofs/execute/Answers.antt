-- `execute` meets its contract: what decoding accepted may be carried out. Assumes nothing.
use Rattle.std.proofs.Common.{rules, ◌≡◌, true, false, Ok}
use Rattle.state.specs.State.{in_range}
use Rattle.opcodes.specs.Decoding.{decoded_of}
use Rattle.execute.proofs.Executing.{may_run}
use Rattle.execute.proofs.execute.Goals as goal

pub carry_out-requires : goal.carry_out-requires
carry_out-requires c =
    let fit : in_range c.args.control ≡ true = search rules in
    let accepted : decoded_of c.enabled.result false 0 c.args.opcode c.args.cntrl ≡ Ok c.in_ok-instruction.instruction = search rules in
    may_run _ _ _ _ _ fit accepted
