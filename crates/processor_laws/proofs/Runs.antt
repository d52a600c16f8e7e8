-- `run-steps`, `run-counted` and `run_ends`: the statements of specs/Steps. Assumes nothing.
use Rattle.std.specs.Prelude.{Option, Some, None}
use Prim.Native.Nat.{ℕ, zero, suc, ◌%◌, ◌<◌}
use mathlib.Core.Bool.{Bool, false}
use mathlib.Core.Path.{◌≡◌, refl, sym, ap}
use native.Mathlib.Omega.{arith}
use lib.Dec.{eqb}
use Rattle.bus.specs.Memory.{Memory}
use Rattle.processor_decode.specs.Format.{two_of}
use Rattle.processor_decode.specs.Opcode.{decode_of}
use Rattle.processor_machine.specs.State.{State, Stepped, state_of, stepped_of}
use Rattle.processor_step.specs.Step.{first_of, second_of, next_of, perform_of, running_step_of, step_in_of, instruction_step_of}
use Rattle.processor_step.specs.Interrupted.{lines_in, accepts_in, interrupt_step_of}
use Rattle.processor_step.specs.Step.{step_of}
use Rattle.processor_step.proofs.Choosing.{step-instruction}
use Rattle.processor_interrupt.specs.Interrupt.{accepts_of}
use Rattle.processor_machine.specs.declared.Mode.{Mode}
use Rattle.processor_machine.specs.declared.Mode.TheVariants.{Running, Halted, Fatal}
use Rattle.processor_machine.specs.declared.Answer.{Answer}
use Rattle.processor_machine.specs.declared.Answer.TheVariants.{Ended, Trapped, Interrupted, TurnedFatal, WasHalted, WasFatal, Refused}
use Rattle.processor.specs.Run.{Run, one_more, after_of, after_step, run_of, After}
use Rattle.processor_laws.specs.Steps.{steps_of, RunSteps, Counts, RunCounted, step_end_of, Ends, RunEnds}
use Rattle.processor_execute.proofs.Every as every
use Rattle.word.proofs.Choices.{pick-each}
use Rattle.processor_decode.specs.declared.Instruction.{Instruction}

-- what a step leaves as it was, by its answer
abbrev pub Leaves : Answer → Stepped → State → Memory → Type 0
Leaves Ended t s m = Unit {0}
Leaves (Trapped c) t s m = Unit {0}
Leaves (Interrupted level) t s m = Unit {0}
Leaves (TurnedFatal c) t s m = (t.state ≡ state_of s.regs s.sys s.pc s.psw Fatal) × (t.memory ≡ m)
Leaves WasHalted t s m = (t.state ≡ s) × (t.memory ≡ m)
Leaves WasFatal t s m = (t.state ≡ s) × (t.memory ≡ m)
Leaves (Refused n) t s m = (t.state ≡ s) × (t.memory ≡ m)

module _ (s : State) (m : Memory) where
  abbrev Idle : Stepped → Type 0
  Idle t = Leaves t.answer t s m

  idle : (next : ℕ) → every.Leaves Idle next s m
  idle next =
      record { ended = λ regs sys pc psw. tt; halted = tt; trapped = λ c sys pc psw. tt; fatal = λ c. (refl, refl) }

  perform-idle : (d : Option Instruction) (next : ℕ) → Idle (perform_of d next s m)
  perform-idle (Some i) next = every.execute-every Idle next s m (idle next) i (λ width disp reg1 reg2. (λ e. tt, λ e. tt))
  perform-idle None next = (refl, refl)

  step-in-idle : (mode : Mode) → Idle (step_in_of mode s m)
  unfolding running_step_of
  step-in-idle Running =
      let first = first_of s.pc m in
      perform-idle (decode_of first (second_of (two_of first) s.pc m)) (next_of (two_of first) s.pc)
  step-in-idle Halted = (refl, refl)
  step-in-idle Fatal = (refl, refl)

  instruction-idle : Idle (instruction_step_of s m)
  unfolding instruction_step_of
  instruction-idle = step-in-idle s.mode

  step-idle : Idle (step_of s m)
  unfolding step_of
  step-idle = pick-each Idle (accepts_in s m) (interrupt_step_of s m) (instruction_step_of s m) tt instruction-idle

-- the same, for laws of other crates
pub step-leaves : (s : State) (m : Memory) → Leaves (step_of s m).answer (step_of s m) s m
step-leaves s m = step-idle s m

-- a machine that a step leaves as it was
abbrev Still : State → Memory → Type 0
Still s m = ((step_of s m).state ≡ s) × ((step_of s m).memory ≡ m)

still-steps : (n : ℕ) (s : State) (m : Memory) → Still s m → steps_of n s m ≡ (s, m)
unfolding steps_of
still-steps zero s m h = refl
still-steps (suc n) s m h = rw (h.0, h.1) (still-steps n s m h)

-- the same of a machine that a still machine's step gave
still-again : (s u : State) (m w : Memory) → u ≡ s → w ≡ m → Still s m → Still u w
still-again s u m w e f h = rw (e, f) h

-- a fatal machine accepts nothing
fatal-masked : (lines psw : ℕ) → accepts_of lines psw Fatal ≡ false
unfolding accepts_of
fatal-masked lines psw = pick-each (λ (b : Bool). b ≡ false) (eqb (lines % 32) 0) false false refl refl

fatal-instruction : (s : State) (m : Memory) → s.mode ≡ Fatal → instruction_step_of s m ≡ stepped_of WasFatal s m
unfolding instruction_step_of
fatal-instruction s m e = rw e

fatal-still : (s : State) (m : Memory) → s.mode ≡ Fatal → Still s m
fatal-still s m e =
    let masked : accepts_in s m ≡ false = rw e (fatal-masked (lines_in m) s.psw) in
    rw (step-instruction s m masked, fatal-instruction s m e) (refl, refl)

module _ (budget : ℕ) (s : State) (m : Memory) where
  after-steps : (a : Answer) (rest : Run) → Leaves a (step_of s m) s m
      → (rest.state, rest.memory) ≡ steps_of budget (step_of s m).state (step_of s m).memory
      → ((after_step (after_of a) (step_of s m) rest).state, (after_step (after_of a) (step_of s m) rest).memory)
      ≡ steps_of budget (step_of s m).state (step_of s m).memory
  after-steps Ended rest h e = e
  after-steps (Trapped c) rest h e = e
  after-steps (Interrupted level) rest h e = e
  after-steps (TurnedFatal c) rest h e =
      sym (still-steps budget (step_of s m).state (step_of s m).memory (fatal-still _ _ (ap (λ (u : State). u.mode) h.0)))
  after-steps WasHalted rest h e =
      sym (still-steps budget (step_of s m).state (step_of s m).memory (still-again s _ m _ h.0 h.1 h))
  after-steps WasFatal rest h e =
      sym (still-steps budget (step_of s m).state (step_of s m).memory (still-again s _ m _ h.0 h.1 h))
  after-steps (Refused n) rest h e =
      sym (still-steps budget (step_of s m).state (step_of s m).memory (still-again s _ m _ h.0 h.1 h))

pub run-steps : RunSteps
unfolding run_of steps_of
run-steps zero s m = refl
run-steps (suc budget) s m =
    let t = step_of s m in
    after-steps budget s m t.answer (run_of budget t.state t.memory) (step-idle s m)
    (run-steps budget t.state t.memory)

-- a run that stops at once, at a step that left the machine as it was
same-counts : (r : Run) (s : State) (m : Memory) → r.state ≡ s → r.memory ≡ m → Counts r (s, m)
same-counts r s m e f =
    record {
      same_memory = f;
      same_regs = ap (λ (u : State). u.regs) e;
      same_sys = ap (λ (u : State). u.sys) e;
      same_pc = ap (λ (u : State). u.pc) e;
      same_psw = ap (λ (u : State). u.psw) e;
      not_fatal = λ _. e;
      refused = λ n _. e;
    }

module _ (s : State) (m : Memory) where
  -- one counted step more
  counted : (rest : Run) → Counts rest (steps_of rest.count (step_of s m).state (step_of s m).memory)
      → Counts (one_more rest) (steps_of (suc rest.count) s m)
  unfolding steps_of
  counted rest e =
      record {
        same_memory = e.same_memory;
        same_regs = e.same_regs;
        same_sys = e.same_sys;
        same_pc = e.same_pc;
        same_psw = e.same_psw;
        not_fatal = e.not_fatal;
        refused = e.refused;
      }

  after-counts : (a : Answer) (rest : Run) → Leaves a (step_of s m) s m
      → Counts rest (steps_of rest.count (step_of s m).state (step_of s m).memory)
      → Counts (after_step (after_of a) (step_of s m) rest) (steps_of (after_step (after_of a) (step_of s m) rest).count s m)
  unfolding steps_of
  after-counts Ended rest h e = counted rest e
  after-counts (Trapped c) rest h e = counted rest e
  after-counts (Interrupted level) rest h e = counted rest e
  after-counts (TurnedFatal c) rest h e =
      record {
        same_memory = h.1;
        same_regs = ap (λ (u : State). u.regs) h.0;
        same_sys = ap (λ (u : State). u.sys) h.0;
        same_pc = ap (λ (u : State). u.pc) h.0;
        same_psw = ap (λ (u : State). u.psw) h.0;
        not_fatal = λ k. absurd (k (ap (λ (u : State). u.mode) h.0));
        refused =
            λ n k.
            let z : ◌≡◌ {A = ℕ} 0 1 = cc in
            absurd (omega arith);
      }
  after-counts WasHalted rest h e = same-counts _ s m h.0 h.1
  after-counts WasFatal rest h e = same-counts _ s m h.0 h.1
  after-counts (Refused n) rest h e = same-counts _ s m h.0 h.1

pub run-counted : RunCounted
unfolding run_of steps_of
run-counted zero s m = same-counts _ s m refl refl
run-counted (suc budget) s m =
    let t = step_of s m in
    after-counts s m t.answer (run_of budget t.state t.memory) (step-idle s m)
    (run-counted budget t.state t.memory)

module _ (budget : ℕ) (s : State) (m : Memory) where
  -- the first step is counted, and the others are those of the rest
  counted-again : (n : ℕ) → step_end_of 0 s m ≡ None
      → ((i : ℕ) → i < n → step_end_of i (step_of s m).state (step_of s m).memory ≡ None)
      → (i : ℕ) → i < suc n → step_end_of i s m ≡ None
  unfolding steps_of
  counted-again n e k zero h = e
  counted-again n e k (suc i) h = k i (omega arith)

  after-ends : (a : After) → step_end_of 0 s m ≡ a → (rest : Run) → Ends budget (step_of s m).state (step_of s m).memory rest
      → Ends (suc budget) s m (after_step a (step_of s m) rest)
  unfolding steps_of
  after-ends None e rest k =
      record {
        counted = counted-again rest.count e k.counted;
        stopped = λ h. k.stopped (omega arith);
        spent = λ h. k.spent (omega arith);
      }
  after-ends (Some v) e rest k =
      record { counted = λ i h. absurd (omega arith); stopped = λ h. e; spent = λ h. absurd (omega arith) }

pub run_ends : RunEnds
unfolding run_of steps_of
run_ends zero s m = record { counted = λ i h. absurd (omega arith); stopped = λ h. absurd (omega arith); spent = λ h. refl }
run_ends (suc budget) s m =
    let t = step_of s m in
    after-ends budget s m (after_of t.answer) refl (run_of budget t.state t.memory) (run_ends budget t.state t.memory)
