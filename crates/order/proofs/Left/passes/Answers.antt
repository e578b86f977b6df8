-- `Left::passes` meets its contract: by the group, whose position that is left at every element is not lost. Assumes nothing.
use borrow.Author.Rules.{rules}
use mathlib.Core.Path.{refl}
use mathlib.Core.Bool.{true}
use lib.Bits.{bit_xor}
use lib.ListN.{set}
use Prim.Native.Nat.{◌*◌, ◌/◌, ◌%◌, ◌^◌}
use Rattle.order.specs.SetsWorking.{EntryTried}
use Rattle.order.proofs.Taking.{seen-taken, still-stays}
use Rattle.order.proofs.Left.passes.Goals as goal
use Rattle.order.proofs.Left.passes.Goals.{Else-not-apart}

tried : (c : Else-not-apart) → let a = c.args in let s = a.self.now.sets in let b = a.bindings.now in
    EntryTried true b.n b.iotas b.bound.now a.x s (set s (a.x % 64) (bit_xor c.fetch-here.result (1 * 2 ^ (a.x / 64) % 18446744073709551616)))
tried c =
    let b = c.args.bindings.now in let inside = c.if-p-bindings.false in
    seen-taken _ _ _ _ _ _ b.few (search rules) c.fetch-here.ensures inside _ (b.grouped _ inside) (λ k h. b.earlier _ k inside h)
    (c.args.self.now.stays _ (search rules)) _ c.apart.ensures c.if-not-apart.false

pub invariant_of-self : goal.invariant_of-self
invariant_of-self c = record {
  stays = still-stays _ _ _ _ _ _ c.args.bindings.now.few ((tried (goal.at.invariant_of-self c).Else-not-apart).taken refl) c.args.self.now.stays;
}

pub returns-clause-tried : goal.returns-clause-tried
returns-clause-tried c = tried (goal.at.returns-clause-tried c).Else-not-apart
