-- The request lines and the timer, which the processor's record has (paper 02, W6) and a step finds among the device
-- registers of the memory (bus, TimerLines). The caller's memories have the drawing registers alone.
use Rattle.bus.specs.Registers.{drawing_in}
use Rattle.bus.specs.TimerLines.{device_of}
use Rattle.bus.specs.Memory.{Memory, with_regs}
use Rattle.processor.specs.declared.Processor.{Processor}

-- the memory that a step has: the record's lines and timer follow the drawing registers
abbrev pub bus_of : Processor → Memory → Memory
bus_of p m = with_regs m (device_of m.regs p.hardware)

-- the caller's memory ("lent" in paper 01): the drawing registers alone
abbrev pub lent_of : Memory → Memory
lent_of m = with_regs m (drawing_in m.regs)
