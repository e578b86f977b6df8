-- What a format delivers of an exact number (document 01: "Results are the exact value rounded to 24 bits, halves away from zero. A zero result is
-- all zero bits. .. Exponents run 1 to 255"; document 02, Q-2, for every rounded result, in place of document 01's rule: the exponent is judged after
-- normalising and rounding, for underflow as for overflow). Definitions only.
use Rattle.std.specs.Prelude.{ℕ, ◌+◌, ◌-◌, ◌*◌, ◌^◌, ◌==◌, nat_lt}
use Rattle.numbers.specs.Choice.{pick}
use Rattle.floating.specs.Format.{Format, word_of}
use Rattle.floating.specs.Exact.{Exact}
use Rattle.floating.specs.Round.{rounded}
use Rattle.floating.specs.declared.Delivery.{Delivery}
use Rattle.floating.specs.declared.Delivery.TheVariants.{Word, Overflow, Underflow}

-- The one place where the range is judged: the sign s, and the significand and the exponent field of the rounded number (0 stands for every exponent
-- below the range).
abbrev pub judged : Format → ℕ → ℕ → ℕ → Delivery
judged f s sig field =
    pick (field == 0) Underflow
    (pick (nat_lt f.largest field) Overflow
    (Word (word_of f s field (sig - 2 ^ (f.bits - 1)))))

-- A number with the exponent field e is 2 ^ (bits - 1 + e) at least, and below 2 ^ (bits + e), in units of 2 ^ -(bits + excess). So in those units
-- the digits past `bits` count the field. A number below the range has none: it is rounded to whole units, and its field is 0 unless that reaches
-- 2 ^ bits units, the smallest number. One with `bits` digits before the point is so rounded to its `bits` digits. One with fewer rounds to half the
-- smallest number at most, at whatever scale, so that its field is 0 either way (proofs/Delivering, delivered-near).
unfoldable pub delivered : Format → Exact → Delivery
unfolding rounded
delivered f v =
    let r = rounded f.bits (v.num * 2 ^ (f.bits + f.excess)) v.den in
    pick (v.num == 0) (Word 0)
    (judged f v.sign r.sig r.exp)
