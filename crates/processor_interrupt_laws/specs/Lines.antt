-- What a step or a run does to the request lines (paper 02, W6: a line is "changed only by the bench and, line 1, by
-- the Timer section's rules"): the statements, over the bus's device registers. Their proofs are `step_Lines` and
-- `run-lines` in proofs/Lining. That no store does more is bus_timer_laws' Writing.
use Rattle.std.specs.Prelude.{ℕ, ◌≤◌, ◌≡◌, length}
use Rattle.bus.specs.TimerLines.{device_length}
use Rattle.bus.specs.Memory.{Memory}
use Rattle.processor_machine.specs.State.{State}
use Rattle.processor_interrupt.specs.Interrupt.{line_of}
use Rattle.processor_step.specs.Interrupted.{lines_in}
use Rattle.processor_step.specs.Step.{step_of}
use Rattle.processor.specs.Run.{run_of}

-- the lines of levels 0, 2, 3 and 4 do not change, and that of level 1 does not rise
pub record KeepsLines (m n : Memory) : Type 0 where
  pub others : (level : ℕ) → (level ≡ 1 → ⊥) → line_of level (lines_in n) ≡ line_of level (lines_in m)
  pub timer : line_of 1 (lines_in n) ≤ line_of 1 (lines_in m)

abbrev pub StepLines : Type 0
StepLines = (s : State) (m : Memory) → length m.regs ≡ device_length → KeepsLines m (step_of s m).memory

abbrev pub RunLines : Type 0
RunLines =
    (budget : ℕ) (s : State) (m : Memory) → length m.regs ≡ device_length → KeepsLines m (run_of budget s m).memory
