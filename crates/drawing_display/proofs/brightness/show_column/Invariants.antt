use Rattle.std.proofs.Common.{◌+◌, get_or}
use Rattle.drawing_pixel.specs.Character.{two_bits_of}
use Rattle.drawing_display.specs.inner.Output.{Column}
use Rattle.drawing_display.proofs.brightness.show_column.Given as goal

abbrev pub invariant-loop-r : goal.invariant-loop-r
invariant-loop-r l = Column l.at l.r (λ k. get_or l.levels (l.group + two_bits_of l.column k) 0) l.initial.output l.output
