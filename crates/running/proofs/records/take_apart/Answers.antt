-- `take_apart` meets its contract: the first k places of each part are filled. Assumes nothing.
use Rattle.std.proofs.Common.{◌≡◌, ◌/◌, [], length, ap, ◌∙◌, arith, rules}
use lib.Seq.{get_or-take, length-take-le}
use Rattle.numbers.proofs.Chunks.{chunk-of}
use Rattle.running.specs.Records.{opcode_in, control_word_in, scalar_in, opcode_at, control_word_at, scalar_at}
use Rattle.running.proofs.Parts.{filled-starts, filled-turns, filled-ends}
use Rattle.running.proofs.records.take_apart.Goals as goal

pub loop-k-init : goal.loop-k-init
loop-k-init c = search (filled-starts, rules)

pub loop-k-preserved : goal.loop-k-preserved
loop-k-preserved c =
    let l = c.loop-k in
    let r = c.args.bytes.now in
    let all : length c.as_chunks.result.0.now ≡ length r / 16 = c.as_chunks.ensures.front_len in
    let some = length-take-le c.args.n c.as_chunks.result.0.now (omega arith) in
    let this = get_or-take c.args.n c.as_chunks.result.0.now l.k [] (omega arith) ∙ chunk-of 16 _ _ _ _ (omega arith) c.as_chunks.ensures.front in (
      omega arith,
      filled-turns (opcode_at r) _ _ _ _ l.invariant.1 (c.opcode.ensures ∙ ap opcode_in this),
      filled-turns (control_word_at r) _ _ _ _ l.invariant.2 (c.control_word.ensures ∙ ap control_word_in this),
      filled-turns (scalar_at r) _ _ _ _ l.invariant.3 (c.scalar.ensures ∙ ap scalar_in this),
    )

pub returns : goal.returns
returns c = search (filled-ends, rules)
