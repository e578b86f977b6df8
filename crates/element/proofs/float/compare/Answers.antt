-- `float::compare` meets its contract: the floating compare of the two low words, its relation in bits <2:0>. Assumes nothing.
use Prim.Native.Nat.{◌%◌}
use mathlib.Core.Path.{◌≡◌}
use native.Mathlib.Omega.{arith}
use Rattle.numbers.specs.Relation.{relation_holds}
use Rattle.element.proofs.float.compare.Goals as goal

pub returns : goal.returns
unfolding relation_holds
returns c =
    let e : c.args.relation % 8 % 8 ≡ c.args.relation % 8 = omega arith in
    cc
