use Rattle.drawing_display.specs.inner.Output.{Strips, pixel_in}
use Rattle.drawing_display.proofs.brightness.show.Given as goal

abbrev pub invariant-loop-strip : goal.invariant-loop-strip
invariant-loop-strip l = Strips l.strip (pixel_in l.vram l.levels l.base) l.output
