-- `Left::start` meets its contract: the loop writes the sets of the elements from VLR on, and position 63 is left there. Assumes nothing.
use borrow.Author.Rules.{rules}
use Rattle.order.proofs.Starting.{starts, starts-stay}
use Rattle.order.proofs.Left.start.Goals as goal

pub invariant_of-self : goal.invariant_of-self
invariant_of-self c = record {
  stays = starts-stay _ _ _ _ (starts _ _ c.args.iotas _ (search rules) c.requires (search rules) (λ k h. c.loop-set.invariant k (search rules)))
      c.args.self.now.stays;
}

pub returns : goal.returns
returns c = starts _ _ _ _ (search rules) c.requires (search rules) (λ k h. c.loop-set.invariant k (search rules))
