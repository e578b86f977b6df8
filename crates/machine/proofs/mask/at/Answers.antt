-- `at` meets its contract: the bit of the element is replaced by what its compare gave. Assumes nothing.
use Prim.Native.Nat.{◌%◌}
use Rattle.machine.proofs.Compares.{is-compare, compared-one}
use Rattle.element.specs.declared.Out.{Out}
use Rattle.numbers.specs.Bits.{with_bit}
use mathlib.Core.Path.{refl, sym, ap, ◌∙◌}
use Rattle.machine.proofs.mask.at.Goals as goal

pub one-o-requires : goal.one-o-requires
one-o-requires c =
    (is-compare c.args.instruction c.requires.2, c.requires.0, c.requires.1)

pub returns : goal.returns
returns c =
    let a = c.args in
    let is = c.one-o.ensures in
    λ k g e f.
    compared-one a.instruction a.scalar 0 _ k g c.requires.2 (record { vmr = _; vcr = _; notes = _; wrote = 0 }) a.i.0
    (rw e (c.with_bit.ensures ∙ ap (λ (r : Out). with_bit a.vmr a.i.0 (r.value % 2)) is))
    (sym f)
    (ap (λ (r : Out). r.types) is)
    refl
