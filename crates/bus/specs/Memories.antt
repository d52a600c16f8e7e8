-- The memories and device registers that are lent together, as a memory of the definitions, and what a function that is lent
-- them leaves.
use Rattle.std.specs.Prelude.{◌≡◌}
use Rattle.bus.specs.Memory.{Memory, memory_of}
use Rattle.bus.specs.declared.memories.Memories.{Memories}

-- the bytes and device registers as they stand
abbrev pub held_by : Memories → Memory
held_by m = memory_of m.rom.now m.wram.now m.vram.now m.pak.now m.device.now

-- the same memories are lent
abbrev pub SameLoans : Memories → Memories → Type 0
SameLoans a b =
    (b.rom ≡ a.rom)
    × ((b.wram.ghost_name ≡ a.wram.ghost_name)
    × ((b.vram.ghost_name ≡ a.vram.ghost_name)
    × ((b.pak.ghost_name ≡ a.pak.ghost_name) × (b.device.ghost_name ≡ a.device.ghost_name))))
