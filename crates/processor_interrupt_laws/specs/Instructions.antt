-- Steps and runs in which no interrupt is accepted are the base's, read over the bus as it now is (paper 02, W6): the
-- statements. Their proofs are `step-masked` and `run-instructions` in proofs/Basing. CLI, LDSR, RETI and a store to
-- the timer's control register can change midway whether a line is accepted, so the premise is over every step of the
-- run.
use Rattle.std.specs.Prelude.{ℕ, zero, suc, ◌<◌, false, ◌≡◌, Ok}
use Rattle.bus.specs.Memory.{Memory}
use Rattle.processor_machine.specs.State.{State}
use Rattle.processor_interrupt.specs.Accepted.{Acceptable}
use Rattle.processor_step.specs.Interrupted.{lines_in, accepts_in}
use Rattle.processor_step.specs.Step.{instruction_step_of, step_of, fetched_in_of, fetched_of}
use Rattle.processor.specs.Run.{Run, run_with, after_of, after_step, run_of}
use Rattle.processor_laws.specs.Steps.{steps_of}

-- with no acceptable line a step is the base's, and fetches what that does
abbrev pub StepMasked : Type 0
StepMasked =
    (s : State) (m : Memory) → ((n : ℕ) → Acceptable (lines_in m) s.psw s.mode n → ⊥)
    → (step_of s m ≡ instruction_step_of s m) × (fetched_of s m ≡ fetched_in_of s.mode s.pc m)

-- the base's run: its steps accept no interrupt
unfoldable pub instruction_run_of : ℕ → State → Memory → Run
instruction_run_of zero s m = run_with (Ok tt) 0 s m
instruction_run_of (suc budget) s m =
    let t = instruction_step_of s m in
    after_step (after_of t.answer) t (instruction_run_of budget t.state t.memory)

-- a run is the base's as long as no step of it accepts
abbrev pub RunInstructions : Type 0
RunInstructions =
    (budget : ℕ) (s : State) (m : Memory)
    → ((i : ℕ) → i < budget → accepts_in (steps_of i s m).0 (steps_of i s m).1 ≡ false)
    → run_of budget s m ≡ instruction_run_of budget s m
