-- `drawing_display::brightness::show_strip` meets its contract: the columns so far stand in the buffer. Assumes nothing.
use native.Mathlib.Omega.{arith}
use mathlib.Core.Path.{refl, ◌∙◌}
use Rattle.drawing_display.proofs.Filling.{columns-more, column-pixels}
use Rattle.drawing_display.proofs.brightness.show_strip.Goals as goal

pub loop-x-preserved : goal.loop-x-preserved
loop-x-preserved c =
    columns-more _ _ _ _ _ _ _ c.loop-x.invariant c.show_column.ensures (omega arith)
    (column-pixels _ _ _ _ _ _ _ (c.from-column.ensures ∙ c.half.ensures) refl)
