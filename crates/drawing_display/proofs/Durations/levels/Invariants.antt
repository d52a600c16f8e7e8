use Rattle.drawing_display.specs.inner.Output.{Levels}
use Rattle.drawing_display.proofs.Durations.levels.Given as goal

abbrev pub invariant-loop-k : goal.invariant-loop-k
invariant-loop-k l = Levels l.vram l.self l.table l.start l.k l.level-items
