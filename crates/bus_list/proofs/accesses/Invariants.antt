use Prim.Native.Nat.{◌/◌}
use lib.ListN.{length}
use Rattle.bus.specs.Memory.{memory_of}
use Rattle.bus_list.proofs.InOrder.{Follows}
use Rattle.bus_list.proofs.accesses.Given as goal

abbrev pub invariant-loop-k : goal.invariant-loop-k
invariant-loop-k l =
    Follows (length l.initial.list / 20) (memory_of l.rom l.initial.wram l.initial.vram l.initial.pak l.initial.device) l.initial.list l.k
    (memory_of l.rom l.wram l.vram l.pak l.device) l.list
