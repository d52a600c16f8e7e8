-- A step by whether an interrupt is accepted: the entry of its level, or the instruction's step; and what it fetches.
-- Assumes nothing.
use Rattle.std.proofs.Common.{◌≡◌, true, false}
use Rattle.bus.specs.Memory.{Memory}
use Rattle.processor_machine.specs.State.{State}
use Rattle.processor_step.specs.Interrupted.{accepts_in, interrupt_step_of}
use Rattle.processor_step.specs.Step.{instruction_step_of, step_of, not_fetched, fetched_in_of, fetched_of}

module _ (s : State) (m : Memory) where
  pub step-interrupt : accepts_in s m ≡ true → step_of s m ≡ interrupt_step_of s m
  unfolding step_of
  step-interrupt e = rw e

  pub fetched-interrupt : accepts_in s m ≡ true → fetched_of s m ≡ not_fetched
  unfolding fetched_of
  fetched-interrupt e = rw e

  pub step-instruction : accepts_in s m ≡ false → step_of s m ≡ instruction_step_of s m
  unfolding step_of
  step-instruction e = rw e

  pub fetched-instruction : accepts_in s m ≡ false → fetched_of s m ≡ fetched_in_of s.mode s.pc m
  unfolding fetched_of
  fetched-instruction e = rw e
