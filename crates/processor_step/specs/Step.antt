-- A step (paper 01, "Instructions"; paper 02, W6): an interrupt is accepted, or the instruction at PC is fetched once,
-- decoded and executed. In halted or fatal mode a step "does nothing and says which"; an instruction that is not
-- modelled is refusal 6.
use Rattle.std.specs.Prelude.{ℕ, ◌+◌, ◌%◌, ◌^◌, Bool, Option, Some, None}
use Rattle.word.specs.Choose.{pick}
use Rattle.bus.specs.Memory.{Memory, load_of}
use Rattle.refusal.specs.declared.Refusal as refusal
use Rattle.processor_decode.specs.Format.{two_of}
use Rattle.processor_decode.specs.Opcode.{decode_of}
use Rattle.processor_machine.specs.State.{State, Stepped, stepped_of}
use Rattle.processor_execute.specs.Execute.{execute_of}
use Rattle.processor_machine.specs.declared.Mode.{Mode}
use Rattle.processor_machine.specs.declared.Mode.TheVariants.{Running, Halted, Fatal}
use Rattle.processor_machine.specs.declared.Answer.TheVariants.{WasHalted, WasFatal, Refused}
use Rattle.processor_step.specs.Interrupted.{accepts_in, interrupt_step_of}
use Rattle.processor_step.specs.declared.step.Fetched.{Fetched}
use Rattle.processor_decode.specs.declared.Instruction.{Instruction}

-- the first halfword, at PC
abbrev pub first_of : ℕ → Memory → ℕ
first_of pc m = load_of m 2 pc

-- the second halfword, read where the first asks for it; PC arithmetic wraps
unfoldable pub second_of : Bool → ℕ → Memory → ℕ
second_of two pc m = pick two (load_of m 2 ((pc + 2) % 2 ^ 32)) 0

-- both: "An instruction's halfwords are fetched once; decoding and execution use those"
abbrev pub fetched_at : ℕ → Memory → Fetched
fetched_at pc m =
    let first = first_of pc m in
    record { first = first; second = second_of (two_of first) pc m }

-- the address of the following instruction
unfoldable pub next_of : Bool → ℕ → ℕ
next_of two pc = pick two ((pc + 4) % 2 ^ 32) ((pc + 2) % 2 ^ 32)

-- what the decoded instruction does
abbrev pub perform_of : Option Instruction → ℕ → State → Memory → Stepped
perform_of (Some i) next s m = execute_of i next s m
perform_of None next s m = stepped_of (Refused refusal.TheVariants.NotModelled) s m

-- a step in running mode
unfoldable pub running_step_of : State → Memory → Stepped
running_step_of s m =
    let first = first_of s.pc m in
    let two = two_of first in
    perform_of (decode_of first (second_of two s.pc m)) (next_of two s.pc) s m

-- a step with no interrupt accepted, by the mode
abbrev pub step_in_of : Mode → State → Memory → Stepped
step_in_of Running s m = running_step_of s m
step_in_of Halted s m = stepped_of WasHalted s m
step_in_of Fatal s m = stepped_of WasFatal s m

unfoldable pub instruction_step_of : State → Memory → Stepped
instruction_step_of s m = step_in_of s.mode s m

-- a step: acceptance "is a step of its own .. and comes before the next instruction is looked at"
unfoldable pub step_of : State → Memory → Stepped
step_of s m = pick (accepts_in s m) (interrupt_step_of s m) (instruction_step_of s m)

-- the halfwords that a step fetches: none in halted or fatal mode, and none where an interrupt is accepted
abbrev pub not_fetched : Fetched
not_fetched = record { first = 0; second = 0 }

abbrev pub fetched_in_of : Mode → ℕ → Memory → Fetched
fetched_in_of Running pc m = fetched_at pc m
fetched_in_of Halted pc m = not_fetched
fetched_in_of Fatal pc m = not_fetched

unfoldable pub fetched_of : State → Memory → Fetched
fetched_of s m = pick (accepts_in s m) not_fetched (fetched_in_of s.mode s.pc m)
