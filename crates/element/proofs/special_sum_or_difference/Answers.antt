-- `special_sum_or_difference` meets its contract: the floating sum or difference of the two words, whatever EXC is, put into the low half. Assumes nothing.
use mathlib.Core.Path.{◌∙◌}
use Rattle.element.proofs.Groups.{is_sum}
use Rattle.element.proofs.special_sum_or_difference.Goals as goal

pub special_sum_or_difference-requires : goal.special_sum_or_difference-requires
special_sum_or_difference-requires c = rw (c.longword.ensures, c.longword-2.ensures) c.requires

pub returns : goal.returns
returns c = λ exc.
    let sum = c.special_sum_or_difference.ensures exc in
    c.place.ensures ∙ is_sum c.args.minus exc _ _ _ _ _ _ c.longword.ensures c.longword-2.ensures sum
