-- `bus::code::fetch`: from ROM or from WRAM.
use Rattle.bus.specs.Memory.{memory_of}
use Rattle.bus.proofs.Fetches.{fetches}
use Rattle.bus.proofs.code.fetch.Goals as goal

pub halves-requires : goal.halves-requires
halves-requires c = rw c.if-in_rom.true at c.requires.1

pub returns-then-in_rom : goal.returns-then-in_rom
returns-then-in_rom c = λ vram pak regs base last stands even h.
    let b = c in
    let a = b.args in
    fetches (memory_of a.rom.now a.wram.now vram pak regs) base a.x last a.in_rom b.requires.0 stands even
    h _ (rw c.if-in_rom.true c.halves.ensures.0) (rw c.if-in_rom.true c.halves.ensures.1)

pub halves-requires-2 : goal.halves-requires-2
halves-requires-2 c = rw c.if-in_rom.false at c.requires.1

pub returns : goal.returns
returns c = λ vram pak regs base last stands even h.
    let b = c in
    let a = b.args in
    fetches (memory_of a.rom.now a.wram.now vram pak regs) base a.x last a.in_rom b.requires.0 stands even
    h _ (rw c.if-in_rom.false c.halves-2.ensures.0) (rw c.if-in_rom.false c.halves-2.ensures.1)
