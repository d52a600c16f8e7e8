-- The two branches of paper 01's worked rows, on every machine: whatever stands elsewhere in memory and in the
-- registers, PSW among them, where the halfword at PC is the row's and no interrupt is accepted.
use Rattle.std.specs.Prelude.{ℕ, ◌+◌, ◌%◌, ◌^◌, ◌<◌, false, List, ◌≡◌}
use Rattle.bus.specs.Memory.{Memory, load_of}
use Rattle.processor_machine.specs.State.{state_of, stepped_of}
use Rattle.processor_machine.specs.declared.Mode.TheVariants.{Running}
use Rattle.processor_machine.specs.declared.Answer.TheVariants.{Ended}
use Rattle.processor_step.specs.Interrupted.{accepts_in}
use Rattle.processor_step.specs.Step.{step_of}

-- 0x8A00 branches to itself: the step leaves the machine as it was
abbrev pub BranchesToItself : Type 0
BranchesToItself =
    (regs sys : List ℕ) (pc psw : ℕ) (m : Memory) → pc < 2 ^ 32 → pc % 2 ≡ 0 → load_of m 2 pc ≡ 0x8A00
    → accepts_in (state_of regs sys pc psw Running) m ≡ false
    → step_of (state_of regs sys pc psw Running) m ≡ stepped_of Ended (state_of regs sys pc psw Running) m

-- 0x9A00 never branches: the step moves PC past it and changes nothing else
abbrev pub NeverBranches : Type 0
NeverBranches =
    (regs sys : List ℕ) (pc psw : ℕ) (m : Memory) → load_of m 2 pc ≡ 0x9A00
    → accepts_in (state_of regs sys pc psw Running) m ≡ false
    → step_of (state_of regs sys pc psw Running) m ≡ stepped_of Ended (state_of regs sys ((pc + 2) % 2 ^ 32) psw Running) m
