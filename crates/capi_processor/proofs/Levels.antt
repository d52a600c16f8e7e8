-- The level of an answer is below 5: an accepted interrupt has a line's level (paper 02, W6), and no instruction answers
-- an interrupt.
use Rattle.std.specs.Prelude.{Ok, Err, Option, Some, None}
use Rattle.refusal.specs.Number.{Verdict}
use Prim.Native.Nat.{ℕ, ◌<◌}
use mathlib.Core.Path.{◌≡◌}
use native.Mathlib.Omega.{arith}
use Rattle.word.proofs.Choices.{pick-cases}
use Rattle.processor_execute.proofs.Every as every
use Rattle.bus.specs.Memory.{Memory}
use Rattle.processor_decode.specs.Format.{two_of}
use Rattle.processor_decode.specs.Opcode.{decode_of}
use Rattle.processor_machine.specs.State.{State, Stepped}
use Rattle.processor_machine.specs.declared.Answer.{Answer}
use Rattle.processor_machine.specs.declared.Answer.TheVariants.{Interrupted}
use Rattle.processor_machine.specs.declared.Mode.{Mode}
use Rattle.processor_machine.specs.declared.Mode.TheVariants.{Running, Halted, Fatal}
use Rattle.processor_interrupt.proofs.Exactly.{accepts-taken}
use Rattle.processor_step.specs.Interrupted.{lines_in}
use Rattle.processor_step.specs.Step.{first_of, second_of, perform_of, running_step_of, step_in_of, instruction_step_of}
use Rattle.processor_step.specs.Interrupted.{accepts_in}
use Rattle.processor_step.specs.Step.{step_of}
use Rattle.processor.specs.Acceptance.{acceptance_in}
use Rattle.processor.specs.Record.{state_in}
use Rattle.processor.specs.Lines.{bus_of}
use Rattle.processor.specs.Calls.{Done, step_when, checked_step_of}
use Rattle.processor.specs.declared.Processor.{Processor}
use Rattle.capi_processor.specs.inner.Level.{answer_level}
use Rattle.processor_decode.specs.declared.Instruction.{Instruction}

abbrev Below : Stepped → Type 0
Below t = answer_level t.answer < 5

none : 0 < 5
none = omega arith

module _ (next : ℕ) (s : State) (m : Memory) where
  below : every.Leaves Below next s m
  below = record { ended = λ regs sys pc psw. none; halted = none; trapped = λ c sys pc psw. none; fatal = λ c. none }

  performed : (d : Option Instruction) → Below (perform_of d next s m)
  performed (Some i) = every.execute-every Below next s m below i (λ width disp reg1 reg2. (λ e. none, λ e. none))
  performed None = none

module _ (s : State) (m : Memory) where
  running : Below (running_step_of s m)
  unfolding running_step_of
  running = performed _ s m (decode_of (first_of s.pc m) (second_of (two_of (first_of s.pc m)) s.pc m))

  by_mode : (mode : Mode) → Below (step_in_of mode s m)
  by_mode Running = running
  by_mode Halted = none
  by_mode Fatal = none

  stepped : Below (step_of s m)
  unfolding step_of instruction_step_of
  stepped =
      pick-cases Below (accepts_in s m) _ _ (λ e. (accepts-taken (lines_in m) s.psw s.mode e).acceptable.level_below)
      (λ e. by_mode s.mode)

module _ (p : Processor) (m : Memory) where
  by-verdict : (v : Verdict) → answer_level (step_when v p m).answer < 5
  by-verdict (Ok tt) = stepped (state_in p) (bus_of p m)
  by-verdict (Err n) = none

  step-level : answer_level (checked_step_of p m).answer < 5
  unfolding checked_step_of
  step-level = by-verdict (acceptance_in p m)

  pub done-level : (d : Done) → d ≡ checked_step_of p m → answer_level d.answer < 5
  done-level d e = rw e step-level

-- the level of an answer that is known to be an interrupt
pub interrupted-level : (a : Answer) (level : ℕ) → a ≡ Interrupted level → answer_level a < 5 → level < 5
interrupted-level a level e h = rw e at h
