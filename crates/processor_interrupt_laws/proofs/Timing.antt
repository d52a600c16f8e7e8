-- `step-timer` and `run-timer`: the statements of specs/Timer. Assumes nothing.
use Prim.Native.Nat.{ℕ, zero, suc, ◌<◌}
use mathlib.Core.Path.{◌≡◌, refl, ap, ◌∙◌}
use native.Mathlib.Omega.{arith}
use Rattle.bus.specs.Place.{region_of}
use Rattle.bus.specs.Memory.{Memory}
use Rattle.bus_timer_laws.specs.Writing.{timer_in}
use Rattle.bus_timer_laws.proofs.Elsewhere.{stored-elsewhere}
use Rattle.word.specs.declared.width.Width.{Width}
use Rattle.word.specs.declared.width.Width.TheVariants.{Byte, Half, Word}
use Rattle.processor_machine.specs.State.{State, reg_of}
use Rattle.processor_execute.specs.Transfer.{stored_of}
use Rattle.processor_execute.specs.Execute.{plus_of}
use Rattle.processor_step.specs.Step.{step_of}
use Rattle.processor_laws.specs.Steps.{steps_of}
use Rattle.processor_laws.proofs.Runs.{run-steps}
use Rattle.processor_interrupt_laws.specs.Timer.{StoresElsewhere, StepTimer, RunTimer}
use Rattle.processor_interrupt_laws.proofs.Storing.{step-stores}

stored-timer : (m : Memory) (w : Width) (a v : ℕ) → (region_of a ≡ 2 → ⊥) → timer_in (stored_of m w a v) ≡ timer_in m
stored-timer m Byte a v other = stored-elsewhere m 0 a v (omega arith) other
stored-timer m Half a v other = stored-elsewhere m 1 a v (omega arith) other
stored-timer m Word a v other = stored-elsewhere m 2 a v (omega arith) other

pub step-timer : StepTimer
step-timer s m h =
    step-stores s m (λ (n : Memory). timer_in n ≡ timer_in m) refl
    (λ width disp reg1 reg2. (
      λ e. stored-timer m width (plus_of (reg_of s reg1) disp) (reg_of s reg2) (h.store width disp reg1 reg2 e),
      λ e. stored-timer m width (plus_of (reg_of s reg1) disp) (reg_of s reg2) (h.out width disp reg1 reg2 e),
    ))

steps-timer : (budget : ℕ) (s : State) (m : Memory)
    → ((i : ℕ) → i < budget → StoresElsewhere (steps_of i s m).0 (steps_of i s m).1)
    → timer_in (steps_of budget s m).1 ≡ timer_in m
unfolding steps_of
steps-timer zero s m h = refl
steps-timer (suc budget) s m h =
    steps-timer budget (step_of s m).state (step_of s m).memory (λ i less. h (suc i) (omega arith))
    ∙ step-timer s m (h zero (omega arith))

pub run-timer : RunTimer
run-timer budget s m h =
    ap (λ (p : State × Memory). timer_in p.1) (run-steps budget s m) ∙ steps-timer budget s m h
