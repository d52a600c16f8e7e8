-- A step that accepts an interrupt (paper 02, W6), and where a run may end halted: the statements. Their proofs are
-- `accepts-exactly`, `step-interrupted`, `step-independent` and `run-halted` in proofs/Interrupting and proofs/Halting.
use Rattle.std.specs.Prelude.{ℕ, ◌+◌, ◌<◌, true, false, ◌≡◌}
use Rattle.bus.specs.Memory.{Memory}
use Rattle.processor_machine.specs.State.{State}
use Rattle.processor_machine.specs.Exception.{regular_entry_of}
use Rattle.processor_machine.specs.declared.Cause.{Cause}
use Rattle.processor_machine.specs.declared.Mode.TheVariants.{Halted}
use Rattle.processor_machine.specs.declared.Answer.TheVariants.{Interrupted}
use Rattle.processor_interrupt.specs.Interrupt.{level_of, interrupt_code_of, interrupt_handler_of}
use Rattle.processor_interrupt.specs.Accepted.{Acceptable, Taken, woken_of}
use Rattle.processor_step.specs.Interrupted.{lines_in, accepts_in}
use Rattle.processor_step.specs.Step.{step_of, not_fetched, fetched_of}
use Rattle.processor.specs.Run.{run_of}

-- "accepted exactly if some raised line's level is at least I while NP, EP and ID are all clear; the highest such level
-- wins", running or halted
pub record AcceptsExactly (s : State) (m : Memory) : Type 0 where
  pub taken : accepts_in s m ≡ true → Taken (lines_in m) s.psw s.mode
  pub accepted : (n : ℕ) → Acceptable (lines_in m) s.psw s.mode n → accepts_in s m ≡ true

abbrev pub AcceptsAsSaid : Type 0
AcceptsAsSaid = (s : State) (m : Memory) → AcceptsExactly s m

-- an accepted step: the level is answered; the state is a regular exception's entry (which names its cause) with I
-- replaced by the level plus 1, mode running; memory, and with it the lines and the timer, stays; nothing is fetched
pub record InterruptedStep (s : State) (m : Memory) (level : ℕ) : Type 0 where
  pub answer : (step_of s m).answer ≡ Interrupted level
  pub state : (cause : Cause)
      → (step_of s m).state
      ≡ woken_of (level + 1)
      (regular_entry_of cause (interrupt_code_of level) (interrupt_handler_of level) s.pc s.psw s m).state
  pub memory : (step_of s m).memory ≡ m
  pub fetched : fetched_of s m ≡ not_fetched

abbrev pub StepInterrupted : Type 0
StepInterrupted = (s : State) (m : Memory) → accepts_in s m ≡ true → InterruptedStep s m (level_of (lines_in m))

-- it does not depend on any byte of memory: with the same lines it is accepted and gives the same
abbrev pub StepIndependent : Type 0
StepIndependent =
    (s : State) (m n : Memory) → lines_in m ≡ lines_in n → accepts_in s m ≡ true
    → (accepts_in s n ≡ true) × (((step_of s n).answer ≡ (step_of s m).answer) × ((step_of s n).state ≡ (step_of s m).state))

-- "A run stops at halted mode only where nothing is accepted": a run of at least one step that ends halted, whether it
-- was stopped there or its last instruction was HALT, ends where nothing is accepted
abbrev pub RunHalted : Type 0
RunHalted =
    (budget : ℕ) (s : State) (m : Memory) → 0 < budget → (run_of budget s m).state.mode ≡ Halted
    → accepts_in (run_of budget s m).state (run_of budget s m).memory ≡ false
