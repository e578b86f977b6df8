-- `run` meets its contract: each arm's loop over a floating work is the loop over the instruction's own work. Assumes nothing.
use Rattle.std.proofs.Common.{rules}
use Rattle.opcodes.specs.Works.{row_of}
use Rattle.element.specs.Receives.{result_of}
use Rattle.machine.proofs.LaneLoops.{floating_set}
use Rattle.machine.proofs.lanes.Lanes.run.Goals as goal

pub returns-in-AddF : goal.returns-in-AddF
unfolding result_of row_of
returns-in-AddF g c = search (floating_set, rules)

pub returns-in-SubtractF : goal.returns-in-SubtractF
unfolding result_of row_of
returns-in-SubtractF g c = search (floating_set, rules)

pub returns-in-MultiplyF : goal.returns-in-MultiplyF
unfolding result_of row_of
returns-in-MultiplyF g c = search (floating_set, rules)

pub returns-in-DivideF : goal.returns-in-DivideF
unfolding result_of row_of
returns-in-DivideF g c = search (floating_set, rules)
