-- `all_or_none` meets its contract: a bad element leaves all as it was, else every operated element is moved. Assumes nothing.
use Rattle.std.proofs.Common.{rules}
use Rattle.memory.proofs.Accessing.{every, lie-within}
use Rattle.memory.proofs.all_or_none.Goals as goal

pub carry_out-requires : goal.carry_out-requires
carry_out-requires c = search (lie-within, rules)

pub returns : goal.returns
returns c = every _ _ _ _ _ _ _ c.requires c.test.ensures (search rules) _ _ _ _ _ _ _ _ c.carry_out.ensures
