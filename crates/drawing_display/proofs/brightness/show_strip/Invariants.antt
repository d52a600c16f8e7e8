use Rattle.drawing_display.specs.inner.Output.{Columns, pixel_in}
use Rattle.drawing_display.proofs.brightness.show_strip.Given as goal

abbrev pub invariant-loop-x : goal.invariant-loop-x
invariant-loop-x l = Columns l.strip l.x (pixel_in l.vram l.levels l.base) l.initial.output l.output
