-- `drawing_display::column_table::byte` meets its contract: an entry's bytes, the low one first. Assumes nothing.
use native.Mathlib.Omega.{arith}
use Rattle.drawing_display.proofs.Loading.{entry-byte}
use Rattle.drawing_display.proofs.column_table.byte.Goals as goal

pub returns : goal.returns
returns c = rw c.to_le_bytes.ensures (entry-byte _ _ _ c.entry.ensures (omega arith))
