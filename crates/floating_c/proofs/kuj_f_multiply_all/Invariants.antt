-- `floating_c::kuj_f_multiply_all` meets its contract. The invariant: the first i products are made. Assumes nothing.
use Rattle.std.proofs.Common.{◌≡◌, min, length}
use Rattle.floating_c.specs.Given.{Multiplied}
use Rattle.floating_c.proofs.kuj_f_multiply_all.Given as goal

abbrev pub invariant-loop-i : goal.invariant-loop-i
invariant-loop-i l = (l.i-end ≡ min (min (length l.a) (length l.b)) (length l.initial.out)) × Multiplied l.a l.b l.initial.out l.out l.i
