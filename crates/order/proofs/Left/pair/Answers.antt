-- `Left::pair` meets its contract: none, one or two entries are taken. Assumes nothing.
use mathlib.Core.Path.{◌≡◌, refl, sym, subst}
use mathlib.Core.List.{List}
use Prim.Native.Nat.{ℕ, ◌+◌}
use native.Mathlib.Omega.{arith}
use Rattle.order.specs.SetsWorking.{StretchTaken}
use Rattle.order.proofs.Taking.{none-taken, more-taken}
use Rattle.order.proofs.Left.pair.Goals as goal
use Rattle.order.proofs.Left.pair.Goals.{In-Some}

-- the first is taken
one : (c : In-Some) → let a = c.args in let b = a.bindings.now in
    StretchTaken b.n b.iotas b.bound.now a.list.now a.self.now.sets a.i c.passes.new.self.sets (a.i + 1)
one c =
    let room = c.requires in
    more-taken _ _ _ _ _ _ _ _ _ (none-taken _ _ _ _ _ _ (omega arith)) (omega arith) (c.in-Some.ensures.tried.taken refl)

pub returns-in_default : goal.returns-in_default
returns-in_default c =
    let a = c.args in let b = a.bindings.now in let room = c.requires in
    subst (λ (l : List ℕ). StretchTaken b.n b.iotas b.bound.now a.list.now a.self.now.sets a.i l a.i)
    (sym (c.in_default.ensures.tried.same refl)) (none-taken _ _ _ _ _ _ (omega arith))

pub returns-in_default-passes : goal.returns-in_default-passes
returns-in_default-passes c =
    let a = c.args in let b = a.bindings.now in
    subst (λ (l : List ℕ). StretchTaken b.n b.iotas b.bound.now a.list.now a.self.now.sets a.i l (a.i + 1))
    (sym (c.in_default-passes.ensures.tried.same refl)) (one (goal.at.returns-in_default-passes c).In-Some)

pub returns : goal.returns
returns c =
    let a = c.args in let b = a.bindings.now in let room = c.requires in let there : a.i + 1 + 1 ≡ a.i + 2 = omega arith in
    subst (StretchTaken b.n b.iotas b.bound.now a.list.now a.self.now.sets a.i c.passes-2.new.self.sets) there
    (more-taken _ _ _ _ _ _ _ _ _ (one (goal.at.returns c).In-Some) (omega arith) (c.in-Some-passes.ensures.tried.taken refl))
