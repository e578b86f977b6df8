-- `run_order` meets its contract: the loop binds each position of an accepted queue; a list that is not permitted is refused and nothing has changed; a
-- permitted one is walked, and demand 3 says that its entries end where the straight run ends. Assumes nothing.
use Rattle.touch.specs.Parts.{queue}
use Rattle.queue.proofs.Preparing.{Prepared}
use Rattle.queue.proofs.run_order.Given as goal

abbrev pub invariant-loop-k : goal.invariant-loop-k
invariant-loop-k l = Prepared (queue l.opcodes l.cntrls l.scalars) l.bound l.tables.readers l.tables.writers l.k
