-- `is_wide` meets its contract: the size is past 2 ^ 31 - 1, or with the sign 1 past 2 ^ 31. Assumes nothing.
use Rattle.std.proofs.Common.{ℕ, ◌+◌, ltb, ap, ◌∙◌, rules}
use Rattle.floating.proofs.Converting.{overflows-past}
use Rattle.floating.proofs.convert.is_wide.Goals as goal

pub returns : goal.returns
returns c =
    ap (λ (z : ℕ). ltb (2147483647 + z) c.args.n) c.from.ensures ∙ overflows-past c.args.s c.args.n (search rules)
