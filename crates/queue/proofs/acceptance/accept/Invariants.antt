-- `accept` meets its contract: the loop passes the positions that decoding accepts, and keeps the instruction of each. Assumes nothing.
use Rattle.touch.specs.Parts.{queue}
use Rattle.queue.proofs.Preparing.{DecodedSoFar}
use Rattle.queue.proofs.acceptance.accept.Given as goal

abbrev pub invariant-loop-k : goal.invariant-loop-k
invariant-loop-k l = DecodedSoFar (queue l.opcodes l.cntrls l.scalars) l.program l.k
