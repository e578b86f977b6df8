-- `Left::ahead` meets its contract: after each turn the entries up to there have come. Assumes nothing.
use Rattle.order.specs.SetsWorking.{StretchTaken}
use Rattle.order.proofs.Taking.{none-taken, taken-on}
use Rattle.order.proofs.Left.ahead.Goals as goal
use Rattle.order.proofs.Left.ahead.Goals.{After-pair-i}

-- after a turn
whole : (c : After-pair-i) → let a = c.args in let b = a.bindings.now in
    StretchTaken b.n b.iotas b.bound.now a.list.now a.self.now.sets a.from c.pair-i.new.self.sets c.pair-i.result
whole c = taken-on _ _ _ _ _ _ _ _ (taken-on _ _ _ _ _ _ _ _ c.loop-i.invariant _ _ c.pair-half.ensures) _ _ c.pair-i.ensures

pub returns-then-list-lt3 : goal.returns-then-list-lt3
returns-then-list-lt3 c = none-taken _ _ _ _ _ _ c.requires

pub loop-i-init : goal.loop-i-init
loop-i-init c = none-taken _ _ _ _ _ _ c.requires

pub returns-then-half-i : goal.returns-then-half-i
returns-then-half-i c = taken-on _ _ _ _ _ _ _ _ c.loop-i.invariant _ _ c.pair-half.ensures

pub returns-then-i-half : goal.returns-then-i-half
returns-then-i-half c = whole (goal.at.returns-then-i-half c).After-pair-i

pub loop-i-preserved : goal.loop-i-preserved
loop-i-preserved c = whole (goal.at.loop-i-preserved c).After-pair-i
