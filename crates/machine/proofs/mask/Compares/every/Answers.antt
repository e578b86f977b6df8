-- `every` meets its contract: the elements from i on were compared, and their bits stand in order. Assumes nothing.
use Prim.Native.Nat.{◌^◌, ◌<◌}
use Rattle.machine.proofs.Compares.{nothing, room, one_more}
use mathlib.Core.Path.{refl}
use native.Mathlib.Omega.{arith}
use borrow.Author.Rules.{rules}
use Rattle.machine.proofs.mask.Compares.every.Goals as goal
use Rattle.machine.proofs.mask.Compares.every.Goals.{In-loop-i}

pub loop-i-init : goal.loop-i-init
loop-i-init g c = search (nothing, rules)

-- there is room for one more bit in each set
rooms : {g : _} (l : In-loop-i g) → (l.loop-i.found < 2 ^ 63) × (l.loop-i.refused < 2 ^ 63)
rooms l =
    let v = l.loop-i.invariant in
    (room _ _ _ _ v.0 (omega arith) (omega arith), room _ _ _ _ v.1 (omega arith) (omega arith))

pub loop-i-preserved : goal.loop-i-preserved
loop-i-preserved g c =
    let v = c.loop-i.invariant in (
      rw (c.one-o.ensures, ← c.requires.2) (one_more _ _ _ _ v.0 _ refl (omega arith) (omega arith)),
      rw (c.one-o.ensures, ← c.requires.2) (one_more _ _ _ _ v.1 _ refl (omega arith) (omega arith)),
    )

pub overflow_mul-found : goal.overflow_mul-found
overflow_mul-found g c = let r = rooms (goal.at.overflow_mul-found g c).In-loop-i in search rules

pub overflow_add-found : goal.overflow_add-found
overflow_add-found g c = let r = rooms (goal.at.overflow_add-found g c).In-loop-i in search rules

pub overflow_mul-refused : goal.overflow_mul-refused
overflow_mul-refused g c = let r = rooms (goal.at.overflow_mul-refused g c).In-loop-i in search rules

pub overflow_add-refused : goal.overflow_add-refused
overflow_add-refused g c = let r = rooms (goal.at.overflow_add-refused g c).In-loop-i in search rules
