-- `to_longword` meets its contract: by the exponent field: 0, up to F_UNIT, and above. Assumes nothing.
use Rattle.floating.specs.Format.{F}
use Rattle.floating.proofs.Align.{one-bit}
use Rattle.floating.proofs.Converting.{source-none, source-below, source-above, narrow-made, record-made}
use Rattle.std.proofs.Common.{rules}
use Rattle.floating.proofs.convert.to_longword.Goals as goal

pub returns-then-e-eq0 : goal.returns-then-e-eq0
returns-then-e-eq0 c = let o = one-bit c.args.rounded in search (source-none F, rules)

pub returns-then-e-le-F_UNIT : goal.returns-then-e-le-F_UNIT
returns-then-e-le-F_UNIT c =
    let o = one-bit c.args.rounded in
    let n = c.whole_below in
    let v = narrow-made c.args.exc c.sign_of-s.result n.result c.longword_of.result (search rules) (search rules) c.longword_of.ensures in
    search (source-below F, rules)

pub returns : goal.returns
returns c =
    let a = c.args in
    source-above F a.exc a.word _ (one-bit a.rounded) _ _ _ _ _ c.exponent_of-e.ensures c.if-e-eq0.false c.significand_of-m.ensures
    c.sign_of-s.ensures
    (record-made a.exc _ c.sign_of-s.result c.whole_above-n.result _ _ c.is_wide.ensures c.longword_of-2.ensures c.chosen.ensures)
    (search rules) c.whole_above-n.ensures
