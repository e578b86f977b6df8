-- `target` meets its contract. Assumes nothing.
use Rattle.touch.proofs.Touching.{target-mask, target-register}
use Rattle.touch.proofs.target.Goals as goal

pub returns-then-writes_mask : goal.returns-then-writes_mask
returns-then-writes_mask c = target-mask c.args.instruction _ c.writes_mask.ensures c.if-writes_mask.true

pub returns-else-writes_mask : goal.returns-else-writes_mask
returns-else-writes_mask c =
    target-register c.args.instruction _ c.writes_mask.ensures c.if-writes_mask.false c.requires
