-- The timer while the processor runs (paper 02, W6: "it advances only when the bench tells of a tick of its chosen
-- interval"): a step or a run that stores nothing to region 2 leaves the count, the reload value and the control bits,
-- and the lines too. The statements; their proofs are `step-timer` and `run-timer` in proofs/Timing. What a store to
-- region 2 does is bus_timer_laws' Writing.
use Rattle.std.specs.Prelude.{ℕ, ◌<◌, ◌≡◌, Option, Some}
use Rattle.bus.specs.Place.{region_of}
use Rattle.bus.specs.Memory.{Memory}
use Rattle.bus_timer_laws.specs.Writing.{timer_in}
use Rattle.processor_decode.specs.Opcode.{decode_of}
use Rattle.word.specs.declared.width.Width.{Width}
use Rattle.processor_decode.specs.declared.Instruction.TheVariants.{Store, Out}
use Rattle.processor_machine.specs.State.{State, reg_of}
use Rattle.processor_execute.specs.Execute.{plus_of}
use Rattle.processor_step.specs.Step.{step_of, fetched_of}
use Rattle.processor.specs.Run.{run_of}
use Rattle.processor_laws.specs.Steps.{steps_of}
use Rattle.processor_decode.specs.declared.Instruction.{Instruction}

-- the instruction of the halfwords that a step fetches; a step that fetches nothing has halfwords 0, MOV r0, r0
abbrev pub decoded_in : State → Memory → Option Instruction
decoded_in s m = decode_of (fetched_of s m).first (fetched_of s m).second

-- ST and OUT are the instructions that store: if the step's is one of them, its address is outside region 2
pub record StoresElsewhere (s : State) (m : Memory) : Type 0 where
  pub store : (width : Width) (disp reg1 reg2 : ℕ) → decoded_in s m ≡ Some (Store width disp reg1 reg2)
      → region_of (plus_of (reg_of s reg1) disp) ≡ 2 → ⊥
  pub out : (width : Width) (disp reg1 reg2 : ℕ) → decoded_in s m ≡ Some (Out width disp reg1 reg2)
      → region_of (plus_of (reg_of s reg1) disp) ≡ 2 → ⊥

abbrev pub StepTimer : Type 0
StepTimer = (s : State) (m : Memory) → StoresElsewhere s m → timer_in (step_of s m).memory ≡ timer_in m

-- of a run, if each of its steps is so
abbrev pub RunTimer : Type 0
RunTimer =
    (budget : ℕ) (s : State) (m : Memory)
    → ((i : ℕ) → i < budget → StoresElsewhere (steps_of i s m).0 (steps_of i s m).1)
    → timer_in (run_of budget s m).memory ≡ timer_in m
