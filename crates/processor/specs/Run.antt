-- A run (paper 01): at most the given number of instructions, and how many ended. It goes by what each step answers:
-- counted, or stop and why.
use Rattle.refusal.specs.Number.{Verdict}
use Rattle.std.specs.Prelude.{ℕ, zero, suc, List, Ok, Err, None, Some, Option}
use Rattle.bus.specs.Memory.{Memory}
use Rattle.processor_machine.specs.State.{State, state_of, Stepped}
use Rattle.processor_step.specs.Step.{step_of}
use Rattle.processor_machine.specs.declared.Answer.{Answer}
use Rattle.processor_machine.specs.declared.Answer.TheVariants.{Ended, Trapped, Interrupted, TurnedFatal, WasHalted}
use Rattle.processor_machine.specs.declared.Answer.TheVariants.{WasFatal, Refused}
use Rattle.processor.specs.declared.Finished.{Finished}

-- "HALT itself and a trapped instruction count; a refused one and the step that turns fatal don't"; an accepted
-- interrupt "counts in a run" (paper 02, W6)
abbrev pub After : Type 0
After = Option Verdict

abbrev pub after_of : Answer → After
after_of Ended = None
after_of (Trapped cause) = None
after_of (Interrupted level) = None
after_of (TurnedFatal cause) = Some (Ok tt)
after_of WasHalted = Some (Ok tt)
after_of WasFatal = Some (Ok tt)
after_of (Refused n) = Some (Err n)

-- what a run gives: whether it was refused, the count, and the machine afterwards
pub record Run : Type 0 where
  pub verdict : Verdict
  pub count : ℕ
  pub state : State
  pub memory : Memory

abbrev pub run_with : Verdict → ℕ → State → Memory → Run
run_with v n s m = record { verdict = v; count = n; state = s; memory = m }

-- one instruction more than a run
abbrev pub one_more : Run → Run
one_more r = run_with r.verdict (suc r.count) r.state r.memory

-- after a step: one more than what the rest of the budget gives, or stop
abbrev pub after_step : After → Stepped → Run → Run
after_step None t rest = one_more rest
after_step (Some v) t rest = run_with v 0 t.state t.memory

-- a run of a budget
unfoldable pub run_of : ℕ → State → Memory → Run
run_of zero s m = run_with (Ok tt) 0 s m
run_of (suc budget) s m =
    let t = step_of s m in
    after_step (after_of t.answer) t (run_of budget t.state t.memory)

-- the same put together from the caller's registers and memories and what the code returns
abbrev pub ran_by : List ℕ → List ℕ → Finished → Memory → Run
ran_by regs sys r m = run_with r.verdict r.count (state_of regs sys r.pc r.psw r.mode) m
