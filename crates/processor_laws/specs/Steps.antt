-- What a run comes to in steps (paper 01: "A run does at most the given number of instructions and reports how many
-- ended: the number of the definition's steps up to the budget, a non-running mode, or a refusal"): the statements.
-- Their proofs are `run-steps`, `run-counted` and `run_ends` in proofs/Runs.
use Rattle.std.specs.Prelude.{ℕ, zero, suc, ◌<◌, ◌≡◌, Ok, Err, None, Some}
use Rattle.bus.specs.Memory.{Memory}
use Rattle.refusal.specs.declared.Refusal.{Refusal}
use Rattle.processor_machine.specs.State.{State}
use Rattle.processor_step.specs.Step.{step_of}
use Rattle.processor_machine.specs.declared.Mode.TheVariants.{Fatal}
use Rattle.processor.specs.Run.{Run, after_of, run_of, After}

-- the state and memory after n steps
unfoldable pub steps_of : ℕ → State → Memory → State × Memory
steps_of zero s m = (s, m)
steps_of (suc n) s m = steps_of n (step_of s m).state (step_of s m).memory

-- a run leaves what as many steps as its budget leave: a machine that stopped a run stays as it is
abbrev pub RunSteps : Type 0
RunSteps =
    (budget : ℕ) (s : State) (m : Memory) → ((run_of budget s m).state, (run_of budget s m).memory) ≡ steps_of budget s m

-- a run against the state and memory after its counted instructions: the step that turns fatal is not counted and
-- changes the mode alone, and a run that is refused leaves just those
pub record Counts (r : Run) (after : State × Memory) : Type 0 where
  pub same_memory : r.memory ≡ after.1
  pub same_regs : r.state.regs ≡ after.0.regs
  pub same_sys : r.state.sys ≡ after.0.sys
  pub same_pc : r.state.pc ≡ after.0.pc
  pub same_psw : r.state.psw ≡ after.0.psw
  pub not_fatal : (r.state.mode ≡ Fatal → ⊥) → r.state ≡ after.0
  pub refused : (n : Refusal) → r.verdict ≡ Err n → r.state ≡ after.0

abbrev pub RunCounted : Type 0
RunCounted =
    (budget : ℕ) (s : State) (m : Memory) → Counts (run_of budget s m) (steps_of (run_of budget s m).count s m)

-- what step number i comes to, the first being 0: counted, or stop and why
abbrev pub step_end_of : ℕ → State → Memory → After
step_end_of i s m = after_of (step_of (steps_of i s m).0 (steps_of i s m).1).answer

-- which count a run has: each step before it is counted; below the budget the next step stops the run, with its verdict
pub record Ends (budget : ℕ) (s : State) (m : Memory) (r : Run) : Type 0 where
  pub counted : (i : ℕ) → i < r.count → step_end_of i s m ≡ None
  pub stopped : r.count < budget → step_end_of r.count s m ≡ Some r.verdict
  pub spent : r.count ≡ budget → r.verdict ≡ (Ok tt)

abbrev pub RunEnds : Type 0
RunEnds = (budget : ℕ) (s : State) (m : Memory) → Ends budget s m (run_of budget s m)
