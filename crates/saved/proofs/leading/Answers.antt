-- `leading` meets its contract: the k records passed are good. Assumes nothing.
use Rattle.std.proofs.Common.{◌≡◌, sym, ◌∙◌, length, arith, rules}
use Rattle.numbers.proofs.Chunks.{chunk-of}
use Rattle.saved.proofs.Loading.{whole, starts, turns, stops, ends}
use Rattle.saved.proofs.leading.Goals as goal
use Rattle.saved.proofs.leading.Goals.{then-k-eq-RECORDS-via-then-k-eq-RECORDS, then-k-eq-RECORDS-via-else-k-eq-RECORDS+then-not-good}

pub loop-k-init : goal.loop-k-init
loop-k-init c = search (starts, rules)

pub returns-then-k-eq-RECORDS : goal.returns-then-k-eq-RECORDS
returns-then-k-eq-RECORDS c =
    elim c.then-k-eq-RECORDS.branch [
      | then-k-eq-RECORDS-via-then-k-eq-RECORDS w ↦
          rw w.if-k-eq-RECORDS.true (rw w.if-k-eq-RECORDS.true at (sym c.loop-k.invariant.1))
      | then-k-eq-RECORDS-via-else-k-eq-RECORDS+then-not-good w ↦
          let bad = whole _ _ _ _ (omega arith) (chunk-of 16 _ _ _ _ (omega arith) c.as_chunks.ensures.front) w.good.ensures ∙ w.if-not-good.true in
          sym (stops 1029 _ _ (omega arith) c.loop-k.invariant.1 bad)
    ]

pub loop-k-preserved : goal.loop-k-preserved
loop-k-preserved c = (
  omega arith,
  turns _ _ c.loop-k.invariant.1
      (whole _ _ _ _ (omega arith) (chunk-of 16 _ _ _ _ (omega arith) c.as_chunks.ensures.front) c.good.ensures ∙ c.if-not-good.false),
)

pub returns : goal.returns
returns c =
    let all : c.loop-k.k ≡ length c.as_chunks.result.0.now = omega arith in
    ends _ _ (omega arith) c.as_chunks.ensures.front_len (rw all at c.loop-k.invariant.1)
