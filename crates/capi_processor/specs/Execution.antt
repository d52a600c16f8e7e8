-- What the C boundary gives for a step and a run (include/vb.h): paper 01's refusal number or VB_MISUSE, the number of
-- the answer and the code of its cause, and the records with the mode as a number.
use Rattle.std.specs.Prelude.{ℕ}
use Rattle.refusal.specs.Number.{number_of, verdict_number}
use Rattle.bus.specs.Memory.{Memory}
use Rattle.processor_machine.specs.Exception.{code_of}
use Rattle.processor_machine.specs.declared.Answer.{Answer}
use Rattle.processor_machine.specs.declared.Answer.TheVariants.{Ended, Trapped, Interrupted, TurnedFatal, WasHalted}
use Rattle.processor_machine.specs.declared.Answer.TheVariants.{WasFatal, Refused}
use Rattle.processor_interrupt.specs.Interrupt.{interrupt_code_of}
use Rattle.processor_undefined.specs.Reads.{none_of}
use Rattle.processor.specs.Calls.{Done, Ran, checked_step_of, checked_run_of}
use Rattle.capi_processor.specs.Undefined.{undefined_out}
use Rattle.capi_processor.specs.Record.{processor_in, processor_out, unless_misused}
use Rattle.capi_processor.specs.declared.record.VbProcessor.{VbProcessor}
use Rattle.capi_processor.specs.declared.undefined.VbUndefined.{VbUndefined}

-- what vb_step gives: refusal, answer, code and masks, the record and the memory afterwards
pub record StepAtBoundary : Type 0 where
  pub refusal : ℕ
  pub answer : ℕ
  pub code : ℕ
  pub undefined : VbUndefined
  pub processor : VbProcessor
  pub memory : Memory

abbrev pub step_gives : (refusal answer code : ℕ) (u : VbUndefined) (p : VbProcessor) (m : Memory) → StepAtBoundary
step_gives refusal answer code u p m =
    record { refusal = refusal; answer = answer; code = code; undefined = u; processor = p; memory = m }

-- by a step's answer: the refusal's number, the answer's number, and the code of the exception that it raised or of the
-- interrupt that it accepted
abbrev pub step_answered : Answer → VbUndefined → VbProcessor → Memory → StepAtBoundary
step_answered Ended u p m = step_gives 0 0 0 u p m
step_answered (Trapped cause) u p m = step_gives 0 1 (code_of cause) u p m
step_answered (TurnedFatal cause) u p m = step_gives 0 2 (code_of cause) u p m
step_answered WasHalted u p m = step_gives 0 3 0 u p m
step_answered WasFatal u p m = step_gives 0 4 0 u p m
step_answered (Interrupted level) u p m = step_gives 0 5 (interrupt_code_of level) u p m
step_answered (Refused n) u p m = step_gives (number_of n) 0 0 u p m

abbrev pub step_done : Done → StepAtBoundary
step_done d =
    step_answered d.answer (undefined_out d.undefined) (processor_out d.processor) d.memory

unfoldable pub step_at : VbProcessor → Memory → StepAtBoundary
step_at p m =
    unless_misused p m (λ (n : ℕ). step_gives n 0 0 (undefined_out none_of) p m)
    (step_done (checked_step_of (processor_in p) m))

-- what vb_run gives
pub record RunAtBoundary : Type 0 where
  pub refusal : ℕ
  pub count : ℕ
  pub processor : VbProcessor
  pub memory : Memory

abbrev pub run_gives : ℕ → ℕ → VbProcessor → Memory → RunAtBoundary
run_gives refusal count p m = record { refusal = refusal; count = count; processor = p; memory = m }

abbrev pub run_done : Ran → RunAtBoundary
run_done r = run_gives (verdict_number r.verdict) r.count (processor_out r.processor) r.memory

unfoldable pub run_at : ℕ → VbProcessor → Memory → RunAtBoundary
run_at budget p m =
    unless_misused p m (λ (n : ℕ). run_gives n 0 p m)
    (run_done (checked_run_of budget (processor_in p) m))
