use Prim.Native.Nat.{◌<◌}
use Rattle.drawing_objects.proofs.Groups.{Drawing}
use Rattle.drawing_objects.proofs.group.Given as goal

abbrev pub invariant-loop-left : goal.invariant-loop-left
invariant-loop-left l = (l.k < 1024) × Drawing l.vram l.registers l.eye l.strip l.n l.left l.k l.initial.buffer l.buffer

abbrev pub decreases-loop-left : goal.decreases-loop-left
decreases-loop-left l = l.left
