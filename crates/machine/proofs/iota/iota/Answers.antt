-- `iota` meets its contract: the walk's turns and the count of the set's ones are IOTA's one step. Assumes nothing.
use Rattle.machine.proofs.IotaLaws.{stepped}
use Rattle.numbers.specs.Working.{low_bits}
use mathlib.Core.Path.{refl, sym, ap, ◌∙◌}
use borrow.Author.Rules.{rules}
use Rattle.machine.proofs.iota.iota.Goals as goal

pub returns : goal.returns
returns c =
    let a = c.args in
    λ which d g e f.
    stepped a.instruction a.stride _ which _ _ d g _ _ (record { vmr = _; vcr = _; notes = 0; wrote = _ }) c.requires.2
    (rw f (search rules)) (rw e (search rules))
    (rw (e, f) (c.low_bits-which.ensures ∙ ap (λ m. low_bits m a.vlr) c.requires.3)) (search rules) (rw c.from.ensures at c.walk.ensures) (sym f)
    refl refl c.low_bits.ensures
