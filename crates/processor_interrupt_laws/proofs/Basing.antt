-- `step-masked` and `run-instructions`: the statements of specs/Instructions. Assumes nothing.
use Prim.Native.Nat.{zero, suc}
use mathlib.Core.Bool.{Bool, true, false}
use mathlib.Core.Path.{◌≡◌, refl, ap, ◌∙◌}
use native.Mathlib.Omega.{arith}
use Rattle.processor_machine.specs.State.{Stepped}
use Rattle.processor_interrupt.specs.Interrupt.{level_of}
use Rattle.processor_interrupt.proofs.Exactly.{accepts-taken}
use Rattle.processor_step.specs.Interrupted.{lines_in, accepts_in}
use Rattle.processor_step.specs.Step.{step_of}
use Rattle.processor_step.proofs.Choosing.{step-instruction, fetched-instruction}
use Rattle.processor.specs.Run.{Run, after_of, after_step, run_of}
use Rattle.processor_laws.specs.Steps.{steps_of}
use Rattle.processor_interrupt_laws.specs.Instructions.{StepMasked, instruction_run_of, RunInstructions}

not-true : (b : Bool) → (b ≡ true → ⊥) → b ≡ false
not-true true n = absurd (n refl)
not-true false n = refl

pub step-masked : StepMasked
step-masked s m none =
    let e : accepts_in s m ≡ false
    = not-true (accepts_in s m)
    (λ t. none (level_of (lines_in m)) (accepts-taken (lines_in m) s.psw s.mode t).acceptable) in
    (step-instruction s m e, fetched-instruction s m e)

pub run-instructions : RunInstructions
unfolding run_of instruction_run_of steps_of
run-instructions zero s m none = refl
run-instructions (suc budget) s m none =
    let e = step-instruction s m (none 0 (omega arith)) in
    let rest = run-instructions budget (step_of s m).state (step_of s m).memory (λ i h. none (suc i) (omega arith)) in
    ap (λ (r : Run). after_step (after_of (step_of s m).answer) (step_of s m) r) rest
    ∙ ap (λ (t : Stepped). after_step (after_of t.answer) t (instruction_run_of budget t.state t.memory)) e
