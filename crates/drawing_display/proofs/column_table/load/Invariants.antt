use Rattle.std.proofs.Common.{◌≡◌, ℕ, ◌/◌, ◌%◌, ◌<◌, get_or}
use Rattle.drawing_display.specs.ColumnTable.{table_byte_of}
use Rattle.drawing_display.proofs.column_table.load.Given as goal

abbrev pub invariant-loop-k : goal.invariant-loop-k
invariant-loop-k l = (j : ℕ) → j < l.k → get_or l.place-items j 0 ≡ table_byte_of (j % 512 / 2) (j % 2)
