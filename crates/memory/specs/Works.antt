-- Document 01, "Opcodes": loads and gathers, stores and scatters, of longwords and of quadwords, read off the row of the work.
use Rattle.std.specs.Prelude.{ℕ, Bool, ◌==◌}
use Rattle.opcodes.specs.declared.works.Work.{Work}
use Rattle.numbers.specs.Choice.{pick}
use Rattle.opcodes.specs.Works.{row_of, is_store as moves_out, size_of as bytes_moved}

abbrev pub is_store : Work → Bool
is_store work = moves_out (row_of work).moves

abbrev pub is_quadword : Work → Bool
is_quadword work = bytes_moved (row_of work).moves == 8

-- how many bytes an element moves: a quadword eight, a longword four
abbrev pub size_of : Bool → ℕ
size_of quadword = pick quadword 8 4
