use Prim.Native.Nat.{◌-◌, ◌*◌, ◌≤◌}
use Rattle.drawing_laws.specs.inner.SourceBytes.{worlds_bytes_biased}
use Rattle.drawing_bytes.proofs.Listings.{Left}
use Rattle.drawing_bytes.proofs.background.list_worlds.Given as goal

abbrev pub invariant-loop-k : goal.invariant-loop-k
invariant-loop-k l =
    (l.n ≤ 14 * (32 - l.k)) × Left 0 (worlds_bytes_biased l.vram l.eye l.x l.y 32) l.n (worlds_bytes_biased l.vram l.eye l.x l.y l.k) l.initial.output l.output
