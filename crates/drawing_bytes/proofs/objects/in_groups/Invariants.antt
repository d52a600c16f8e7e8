use Prim.Native.Nat.{◌-◌, ◌%◌}
use mathlib.Core.Path.{◌≡◌}
use Rattle.drawing_bytes.specs.inner.Groups.{in_groups_of}
use Rattle.drawing_bytes.proofs.objects.in_groups.Given as goal

abbrev pub invariant-loop-world : goal.invariant-loop-world
invariant-loop-world l = in_groups_of l.registers (l.worlds - l.world) (3 - l.world % 4) l.k ≡ in_groups_of l.registers l.worlds 3 l.k
