use Prim.Native.Nat.{◌<◌, ◌≤◌}
use Rattle.drawing_strip.proofs.Worlds.{Painting}
use Rattle.drawing_strip.proofs.paint_worlds.Given as goal

abbrev pub invariant-loop-n : goal.invariant-loop-n
invariant-loop-n l = (l.n ≤ 32) × ((l.counter < 4) × Painting l.vram l.registers l.eye l.strip l.n l.counter l.initial.buffer l.buffer)

abbrev pub decreases-loop-n : goal.decreases-loop-n
decreases-loop-n l = l.n
