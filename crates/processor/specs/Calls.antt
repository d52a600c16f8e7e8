-- What the public calls answer, for every input: refusals 1 to 5 first, which change nothing; then the step or the run.
use Rattle.refusal.specs.Number.{Verdict}
use Rattle.std.specs.Prelude.{ℕ, replicate, set, Ok, Err}
use Rattle.bus.specs.TimerLines.{device_length}
use Rattle.bus.specs.Memory.{Memory}
use Rattle.processor_machine.specs.State.{state_of, ecr_place}
use Rattle.processor_step.specs.Step.{step_of}
use Rattle.processor_undefined.specs.Reads.{none_of, undefined_step_of}
use Rattle.processor_undefined.specs.declared.Undefined.{Undefined}
use Rattle.processor_machine.specs.declared.Mode.TheVariants.{Running}
use Rattle.processor_machine.specs.declared.Answer.{Answer}
use Rattle.processor_machine.specs.declared.Answer.TheVariants.{Refused}
use Rattle.processor.specs.Record.{state_in, processor_of}
use Rattle.processor.specs.Lines.{bus_of, lent_of}
use Rattle.processor.specs.Acceptance.{acceptance_in}
use Rattle.processor.specs.Run.{run_of}
use Rattle.processor.specs.declared.Processor.{Processor}
use Rattle.processor.specs.declared.Machine.{Machine}

-- what a step's call gives: its answer, which bytes that it read are undefined, the record and the memory afterwards
pub record Done : Type 0 where
  pub answer : Answer
  pub undefined : Undefined
  pub processor : Processor
  pub memory : Memory

abbrev pub done_of : Answer → Undefined → Processor → Memory → Done
done_of answer u p m = record { answer = answer; undefined = u; processor = p; memory = m }

-- a step, unless refused
abbrev pub step_when : Verdict → Processor → Memory → Done
step_when (Ok tt) p m =
    let t = step_of (state_in p) (bus_of p m) in
    done_of t.answer (undefined_step_of (state_in p) (bus_of p m)) (processor_of t.state t.memory.regs)
    (lent_of t.memory)
step_when (Err n) p m = done_of (Refused n) none_of p m

unfoldable pub checked_step_of : Processor → Memory → Done
checked_step_of p m = step_when (acceptance_in p m) p m

-- what a run's call gives
pub record Ran : Type 0 where
  pub verdict : Verdict
  pub count : ℕ
  pub processor : Processor
  pub memory : Memory

abbrev pub ran_of : Verdict → ℕ → Processor → Memory → Ran
ran_of v n p m = record { verdict = v; count = n; processor = p; memory = m }

-- a run, unless refused; the count of a refused one is 0
abbrev pub run_when : Verdict → ℕ → Processor → Memory → Ran
run_when (Ok tt) budget p m =
    let r = run_of budget (state_in p) (bus_of p m) in
    ran_of r.verdict r.count (processor_of r.state r.memory.regs) (lent_of r.memory)
run_when (Err n) budget p m = ran_of (Err n) 0 p m

unfoldable pub checked_run_of : ℕ → Processor → Memory → Ran
checked_run_of budget p m = run_when (acceptance_in p m) budget p m

-- reset: "PC 0xFFFFFFF0, ECR 0xFFF0, PSW 0x8000, all else 0 (H), running" (paper 01); "Lines and timer reset to 0"
-- (paper 02, W6).
unfoldable pub reset_of : Machine
reset_of =
    record {
      processor =
          processor_of (state_of (replicate 32 0) (set (replicate 8 0) ecr_place 0xFFF0) 0xFFFFFFF0 0x8000 Running)
          (replicate device_length 0);
      drawing = record { regs = replicate 13 0 };
    }
