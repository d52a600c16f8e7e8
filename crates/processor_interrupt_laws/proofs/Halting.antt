-- `run-halted`: a run that ends halted ends where nothing is accepted. Only HALT leaves a halted machine; it is executed only
-- where nothing is accepted, and changes neither PSW nor the lines. Assumes nothing.
use Rattle.std.specs.Prelude.{Option, Some, None}
use Prim.Native.Nat.{ℕ, zero, suc}
use mathlib.Core.Bool.{true, false}
use mathlib.Core.Path.{◌≡◌, refl, sym, ap, ◌∙◌}
use native.Mathlib.Omega.{arith}
use Rattle.bus.specs.Memory.{Memory}
use Rattle.processor_decode.specs.Format.{two_of}
use Rattle.processor_decode.specs.Opcode.{decode_of}
use Rattle.processor_machine.specs.State.{State, Stepped}
use Rattle.processor_machine.specs.declared.Mode.{Mode}
use Rattle.processor_machine.specs.declared.Mode.TheVariants.{Running, Halted, Fatal}
use Rattle.processor_interrupt.specs.Interrupt.{accepts_of, level_of, interrupted_of}
use Rattle.processor_step.specs.Step.{first_of, second_of, next_of, perform_of, running_step_of, step_in_of, instruction_step_of}
use Rattle.processor_step.specs.Interrupted.{lines_in, accepts_in, interrupt_step_of}
use Rattle.processor_step.specs.Step.{step_of}
use Rattle.processor.specs.Run.{Run, after_of, after_step, run_of, After}
use Rattle.processor_execute.proofs.Every as every
use Rattle.word.proofs.Choices.{pick-cases}
use Rattle.processor_interrupt_laws.specs.Interrupts.{RunHalted}
use Rattle.processor_decode.specs.declared.Instruction.{Instruction}

-- modes that differ
mode_tag : Mode → ℕ
mode_tag Running = 0
mode_tag Halted = 1
mode_tag Fatal = 2

running-halted : Running ≡ Halted → ⊥
unfolding mode_tag
running-halted e = let t : ◌≡◌ {A = ℕ} 0 1 = ap mode_tag e in omega arith

fatal-halted : Fatal ≡ Halted → ⊥
unfolding mode_tag
fatal-halted e = let t : ◌≡◌ {A = ℕ} 2 1 = ap mode_tag e in omega arith

-- what a step from running mode leaves if the machine is halted afterwards
module _ (s : State) (m : Memory) (running : s.mode ≡ Running) where
  abbrev Sleeps : Stepped → Type 0
  Sleeps t = t.state.mode ≡ Halted → (t.state.psw ≡ s.psw) × (t.memory ≡ m)

  -- a step that leaves the mode
  awake : {P : Type 0} → s.mode ≡ Halted → P
  awake h = absurd (running-halted (sym running ∙ h))

  sleeps : (next : ℕ) → every.Leaves Sleeps next s m
  sleeps next =
      record {
        ended = λ regs sys pc psw. awake;
        halted = λ h. (refl, refl);
        trapped = λ c sys pc psw. awake;
        fatal = λ c h. absurd (fatal-halted h);
      }

  perform-sleeps : (d : Option Instruction) (next : ℕ) → Sleeps (perform_of d next s m)
  perform-sleeps (Some i) next = every.execute-every Sleeps next s m (sleeps next) i (λ width disp reg1 reg2. (λ e. awake, λ e. awake))
  perform-sleeps None next = awake

  running-sleeps : Sleeps (running_step_of s m)
  unfolding running_step_of
  running-sleeps =
      let first = first_of s.pc m in
      perform-sleeps (decode_of first (second_of (two_of first) s.pc m)) (next_of (two_of first) s.pc)

-- running or halted, the same is accepted
halted-accepts : (lines psw : ℕ) → accepts_of lines psw Halted ≡ accepts_of lines psw Running
unfolding accepts_of
halted-accepts lines psw = refl

-- an interrupt leaves a running machine
interrupt-runs : (level : ℕ) (s : State) → (interrupted_of level s).mode ≡ Running
unfolding interrupted_of
interrupt-runs level s = refl

-- a step that leaves a halted machine, by the mode before
instruction-halted : (mode : Mode) (s : State) (m : Memory) → s.mode ≡ mode → accepts_in s m ≡ false
    → (step_in_of mode s m).state.mode ≡ Halted
    → accepts_in (step_in_of mode s m).state (step_in_of mode s m).memory ≡ false
instruction-halted Running s m e none h =
    let kept = running-sleeps s m e h in
    let masked : accepts_of (lines_in m) s.psw Halted ≡ false
    = halted-accepts (lines_in m) s.psw ∙ (rw e at none) in
    rw (h, kept.0, kept.1) masked
instruction-halted Halted s m e none h = none
instruction-halted Fatal s m e none h = absurd (fatal-halted (sym e ∙ h))

-- the machine after a step, and after a run
abbrev Rests : State → Memory → Type 0
Rests s m = s.mode ≡ Halted → accepts_in s m ≡ false

interrupt-rests : (s : State) (m : Memory) → accepts_in s m ≡ true → Rests (interrupt_step_of s m).state (interrupt_step_of s m).memory
interrupt-rests s m e h = absurd (running-halted (sym (interrupt-runs (level_of (lines_in m)) s) ∙ h))

instruction-rests : (s : State) (m : Memory) → accepts_in s m ≡ false → Rests (instruction_step_of s m).state (instruction_step_of s m).memory
unfolding instruction_step_of
instruction-rests s m none = instruction-halted s.mode s m refl none

step-rests : (s : State) (m : Memory) → Rests (step_of s m).state (step_of s m).memory
unfolding step_of
step-rests s m =
    pick-cases (λ (t : Stepped). Rests t.state t.memory) (accepts_in s m) (interrupt_step_of s m) (instruction_step_of s m)
    (interrupt-rests s m) (instruction-rests s m)

after-rests : (a : After) (t : Stepped) (rest : Run) → Rests t.state t.memory → Rests rest.state rest.memory
    → Rests (after_step a t rest).state (after_step a t rest).memory
after-rests None t rest h k = k
after-rests (Some v) t rest h k = h

-- from a machine that rests, or by one step more
rests-run : (budget : ℕ) (s : State) (m : Memory) → Rests s m → Rests (run_of budget s m).state (run_of budget s m).memory
unfolding run_of
rests-run zero s m h = h
rests-run (suc budget) s m h =
    let t = step_of s m in
    after-rests (after_of t.answer) t (run_of budget t.state t.memory) (step-rests s m)
    (rests-run budget t.state t.memory (step-rests s m))

pub run-halted : RunHalted
unfolding run_of
run-halted zero s m some = absurd (omega arith)
run-halted (suc budget) s m some =
    let t = step_of s m in
    after-rests (after_of t.answer) t (run_of budget t.state t.memory) (step-rests s m)
    (rests-run budget t.state t.memory (step-rests s m))
