-- Document 01, "What an element receives": which elements an instruction operates on.
use Rattle.std.specs.Prelude.{Bool, not, ◌&&◌, ◌||◌, ℕ, ltb}
use Rattle.state.specs.declared.Control.{Control}
use Rattle.state.specs.Elements.{matches}
use Rattle.opcodes.specs.declared.Instruction.{Instruction}
use Rattle.opcodes.specs.Opcodes.{ignores_moe}

-- i < VLR and (MOE = 0 or VMR<i> = MTF); merge and IOTA ignore MOE
unfoldable pub operated : Instruction → Control → ℕ → Bool
operated ins c i = ltb i c.vlr && (not ins.moe || ignores_moe ins || matches c.vmr ins.mtf i)
