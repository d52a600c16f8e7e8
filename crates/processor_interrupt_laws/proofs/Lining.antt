-- `step_lines` and `run-lines`: the statements of specs/Lines. Assumes nothing.
use Rattle.std.specs.Prelude.{None, Some}
use Prim.Native.Nat.{ℕ, zero, suc}
use mathlib.Core.Path.{◌≡◌, refl, ◌∙◌}
use native.Mathlib.Omega.{arith}
use lib.ListN.{length}
use Rattle.bus_timer_laws.proofs.LinesKept.{lines-kept, line-never-rises}
use Rattle.bus.specs.TimerLines.{device_length, hardware_in}
use Rattle.bus.specs.Memory.{Memory, store_of}
use Rattle.bus.proofs.Kept.{store-shape}
use Rattle.word.specs.declared.width.Width.{Width}
use Rattle.processor_machine.specs.State.{State, Stepped}
use Rattle.processor_execute.specs.Transfer.{size_of, stored_of}
use Rattle.processor_step.specs.Step.{step_of}
use Rattle.processor.specs.Run.{Run, after_of, after_step, run_of, After}
use Rattle.processor_interrupt_laws.specs.Lines.{KeepsLines, StepLines, RunLines}
use Rattle.processor_interrupt_laws.proofs.Storing.{step-leaves}

same : (m : Memory) → KeepsLines m m
same m = record { others = λ level other. refl; timer = omega arith }

both : (m n o : Memory) → KeepsLines m n → KeepsLines n o → KeepsLines m o
both m n o p q =
    record {
      others = λ level other. q.others level other ∙ p.others level other;
      timer = omega (arith, p.timer, q.timer);
    }

module _ (m : Memory) (whole : length m.regs ≡ device_length) where
  -- the lines, and how many device registers there are
  abbrev Kept : Memory → Type 0
  Kept n = KeepsLines m n × (length n.regs ≡ device_length)

  store-lines : (size a v : ℕ) → KeepsLines m (store_of m size a v)
  unfolding hardware_in
  store-lines size a v =
      record {
        others = λ level other. lines-kept m size a v level whole other;
        timer = line-never-rises m size a v whole;
      }

  stored-kept : (w : Width) (a v : ℕ) → Kept (stored_of m w a v)
  stored-kept w a v = (store-lines (size_of w) a v, (store-shape m (size_of w) a v).same_regs ∙ whole)

  step_kept : (s : State) → Kept (step_of s m).memory
  step_kept s = step-leaves s m Kept (same m, whole) stored-kept

pub step_lines : StepLines
step_lines s m whole = (step_kept m whole s).0

after-lines : (m : Memory) (a : After) (t : Stepped) (rest : Run) → KeepsLines m t.memory → KeepsLines t.memory rest.memory
    → KeepsLines m (after_step a t rest).memory
after-lines m None t rest p q = both m t.memory rest.memory p q
after-lines m (Some v) t rest p q = p

pub run-lines : RunLines
unfolding run_of
run-lines zero s m whole = same m
run-lines (suc budget) s m whole =
    let t = step_of s m in
    let kept = step_kept m whole s in
    after-lines m (after_of t.answer) t (run_of budget t.state t.memory) kept.0
    (run-lines budget t.state t.memory kept.1)
