-- The caller's memories and device registers as a call finds them and as it leaves them: abbreviations for contracts.
-- Paper 01 says "lends" of a caller that gives a memory for the time of a call: hence `Lent`.
use Rattle.std.specs.Prelude.{ℕ, List}
use Rattle.bus.specs.Memory.{Memory, memory_of}

-- a borrowed memory at one moment: what a contract writes as `x.now` of a memory that is only read, as `x.old` of one
-- that may be written at the call's start, and as `x.new` at its end
abbrev pub Lent : Type 0
Lent = List ℕ

-- everything as a call finds it: the four memories, and the device registers given by value
abbrev pub entering_with : Lent → Lent → Lent → Lent → List ℕ → Memory
entering_with rom wram vram pak regs = memory_of rom wram vram pak regs

-- everything as a call leaves it, the device registers answered by value; ROM is only read
abbrev pub leaving_with : Lent → Lent → Lent → Lent → List ℕ → Memory
leaving_with rom wram vram pak regs = memory_of rom wram vram pak regs

-- the same where the device registers are borrowed too
abbrev pub entering : Lent → Lent → Lent → Lent → Lent → Memory
entering rom wram vram pak device = entering_with rom wram vram pak device

abbrev pub leaving : Lent → Lent → Lent → Lent → Lent → Memory
leaving rom wram vram pak device = leaving_with rom wram vram pak device

-- memory after a call that may write only WRAM and VRAM
abbrev pub leaving_ram : Lent → Lent → Lent → Lent → Lent → Memory
leaving_ram rom wram vram pak device = memory_of rom wram vram pak device
