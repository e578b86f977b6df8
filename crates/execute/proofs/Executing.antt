-- One instruction that decoding accepted may be carried out. Assumes nothing.
use Rattle.std.proofs.Common.{◌≡◌, Bool, true, false, Ok, ℕ, ◌≤◌}
use Rattle.state.specs.declared.Control.{Control}
use Rattle.state.specs.State.{in_range}
use Rattle.state.proofs.Ranges.{vlr-at-most}
use Rattle.opcodes.specs.declared.Instruction.{Instruction}
use Rattle.opcodes.specs.Working.{Below, in_table}
use Rattle.opcodes.specs.Decoding.{decoded_of}
use Rattle.opcodes.proofs.Passed.{passed}

pub may_run : (c : Control) (on : Bool) (code cntrl : ℕ) (ins : Instruction) → in_range c ≡ true → decoded_of on false 0 code cntrl ≡ Ok ins
    → Below ins × (in_table ins.work ≡ true) × (c.vlr ≤ 64)
may_run c on code cntrl ins r e =
    let p = passed on false 0 code cntrl ins e in
    (record { va = p.va-below; vb = p.vb-below; vc = p.vc-below }, p.listed, vlr-at-most c r)
