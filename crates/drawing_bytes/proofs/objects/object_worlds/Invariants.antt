use Prim.Native.Nat.{◌+◌, ◌≤◌}
use mathlib.Core.Path.{◌≡◌}
use Rattle.drawing_bytes.specs.inner.Groups.{reached_object_worlds_of}
use Rattle.drawing_bytes.proofs.objects.object_worlds.Given as goal

abbrev pub invariant-loop-k : goal.invariant-loop-k
invariant-loop-k l = (l.found + l.k ≤ 32) × (l.found + reached_object_worlds_of l.vram l.k ≡ reached_object_worlds_of l.vram 32)
