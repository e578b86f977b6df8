-- DEMAND 1, for any call and whatever is lent to it: its number is one of document 01's ("Numbers given back"); and where it is not 0, no
-- element, control number, mark, byte of the window or of the file, and no output but what stands beside the number, has changed. That every call
-- ends and does nothing undefined is what the prover asks of every function.
use Rattle.std.specs.Prelude.{◌≡◌, ◌≤◌}
use Rattle.demands.specs.Calls.{Call, Lent, called}

pub record DemandOne (call : Call) (l : Lent) : Type 0 where
  -- 0 to 13
  pub number : (called call l).0.0 ≤ 13
  pub kept : ((called call l).0.0 ≡ 0 → ⊥) → (called call l).1 ≡ l
