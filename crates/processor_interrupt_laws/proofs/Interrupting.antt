-- `accepts-exactly`, `step-interrupted` and `step-independent`: statements of specs/Interrupts. Assumes nothing.
use mathlib.Core.Bool.{true}
use mathlib.Core.Path.{◌≡◌, sym, ap, ◌∙◌}
use Rattle.processor_machine.specs.State.{Stepped}
use Rattle.processor_interrupt.specs.Interrupt.{level_of}
use Rattle.processor_interrupt.proofs.Exactly.{accepts-taken, acceptable-accepts, entry-regular}
use Rattle.processor_step.specs.Interrupted.{lines_in, accepts_in, interrupt_step_of}
use Rattle.processor_step.proofs.Choosing.{step-interrupt, fetched-interrupt}
use Rattle.processor_interrupt_laws.specs.Interrupts.{AcceptsAsSaid, StepInterrupted, StepIndependent}

pub accepts-exactly : AcceptsAsSaid
accepts-exactly s m =
    record {
      taken = accepts-taken (lines_in m) s.psw s.mode;
      accepted = acceptable-accepts (lines_in m) s.psw s.mode;
    }

pub step-interrupted : StepInterrupted
step-interrupted s m e =
    let t = step-interrupt s m e in
    record {
      answer = ap (λ (u : Stepped). u.answer) t;
      state = λ cause. ap (λ (u : Stepped). u.state) t ∙ entry-regular (level_of (lines_in m)) s cause m;
      memory = ap (λ (u : Stepped). u.memory) t;
      fetched = fetched-interrupt s m e;
    }

pub step-independent : StepIndependent
step-independent s m n same e =
    let f : accepts_in s n ≡ true = rw (← same) e in
    let answers : (interrupt_step_of s n).answer ≡ (interrupt_step_of s m).answer = rw same in
    let states : (interrupt_step_of s n).state ≡ (interrupt_step_of s m).state = rw same in (
      f,
      (
        ap (λ (u : Stepped). u.answer) (step-interrupt s n f) ∙ (answers ∙ sym (ap (λ (u : Stepped). u.answer) (step-interrupt s m e))),
        ap (λ (u : Stepped). u.state) (step-interrupt s n f) ∙ (states ∙ sym (ap (λ (u : Stepped). u.state) (step-interrupt s m e))),
      ),
    )
