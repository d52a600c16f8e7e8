use Prim.Native.Nat.{◌+◌, ◌-◌, ◌*◌, ◌≤◌}
use Rattle.drawing_laws.specs.inner.SourceBytes.{objects_bytes_biased}
use Rattle.drawing_bytes.proofs.Listings.{Left}
use Rattle.drawing_bytes.proofs.objects.list_objects.Given as goal

abbrev pub invariant-loop-k : goal.invariant-loop-k
invariant-loop-k l =
    (l.n ≤ l.start + 2 * (1024 - l.k)) × Left l.start (objects_bytes_biased l.vram l.registers l.pixel.eye l.pixel.x
    l.pixel.y 1024) l.n (objects_bytes_biased l.vram l.registers l.pixel.eye l.pixel.x l.pixel.y l.k) l.initial.output l.output
