-- `drawing_display::column_table::entry` meets its contract: the const array is the printed table. Assumes nothing.
use mathlib.Core.Path.{refl}
use Rattle.drawing_display.specs.ColumnTable.{joined_rows, printed_rows, column_table}
use Rattle.drawing_display.proofs.column_table.entry.Goals as goal

pub returns : goal.returns
unfolding joined_rows printed_rows column_table
returns c = refl
