-- `cut_down` meets its contract: a number is cut by d places, or by so many that nothing of it is left. Assumes nothing.
use Rattle.floating.proofs.Align.{cut_off}
use Rattle.floating.proofs.round.cut_down.Goals as goal

pub returns : goal.returns
returns c = cut_off _ c.args.d c.min.result c.args.x c.min.ensures c.requires
