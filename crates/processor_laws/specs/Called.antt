-- The same of the public calls' own records (processor, Calls): what a step or a run gives back, the next call does not
-- refuse by 1 to 5; and what reset gives is such a machine over any memories of the right lengths. The statements;
-- their proofs are `step-call-accepted`, `run-call-accepted` and `reset-accepted` in proofs/Calling.
use Rattle.std.specs.Prelude.{ℕ, List, length}
use Rattle.bus.specs.Memory.{Memory, Lengths, memory_of}
use Rattle.processor.specs.Record.{state_in}
use Rattle.processor.specs.Lines.{bus_of}
use Rattle.processor.specs.Calls.{checked_step_of, checked_run_of, reset_of}
use Rattle.processor.specs.declared.Processor.{Processor}
use Rattle.processor_laws.specs.Accepted.{Below, Machine}

-- a step's call
abbrev pub StepCallAccepted : Type 0
StepCallAccepted =
    (p : Processor) (m : Memory) → Machine (state_in p) (bus_of p m)
    → let q = (checked_step_of p m).processor in
    Machine (state_in q) (bus_of q (checked_step_of p m).memory)

-- a run's call
abbrev pub RunCallAccepted : Type 0
RunCallAccepted =
    (budget : ℕ) (p : Processor) (m : Memory) → Machine (state_in p) (bus_of p m)
    → let q = (checked_run_of budget p m).processor in
    Machine (state_in q) (bus_of q (checked_run_of budget p m).memory)

-- reset
abbrev pub ResetAccepted : Type 0
ResetAccepted =
    (rom wram vram pak : List ℕ) → Lengths (length rom) (length wram) (length vram) (length pak)
    → Below 256 rom
    → Below 256 wram
    → Below 256 vram
    → Below 256 pak
    → let p = reset_of.processor in
    Machine (state_in p) (bus_of p (memory_of rom wram vram pak reset_of.drawing.regs))
