use Prim.Native.Nat.{◌-◌, ◌≤◌}
use mathlib.Core.Path.{◌≡◌}
use lib.ListN.{length}
use Rattle.drawing_pixel.specs.Strip.{strips_of}
use Rattle.drawing_strip.proofs.draw_all.Given as goal

abbrev pub invariant-loop-strip : goal.invariant-loop-strip
invariant-loop-strip l = (l.strip ≤ 28) × ((length l.vram ≡ length l.initial.vram) × (l.vram ≡ strips_of l.initial.vram l.registers l.frame l.strip))

abbrev pub decreases-loop-strip : goal.decreases-loop-strip
decreases-loop-strip l = 28 - l.strip
