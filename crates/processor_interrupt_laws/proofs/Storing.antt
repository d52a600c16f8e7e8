-- The memory after a step is that before it, or what its ST or OUT stored to it: what holds of both holds of it. Assumes
-- nothing.
use Rattle.std.specs.Prelude.{Option, Some, None}
use Prim.Native.Nat.{ℕ}
use mathlib.Core.Bool.{Bool, true, false}
use mathlib.Core.Path.{◌≡◌, ap}
use Rattle.word.specs.Choose.{pick}
use Rattle.processor_execute.proofs.Every as every
use Rattle.bus.specs.Memory.{Memory}
use Rattle.processor_decode.specs.Format.{two_of}
use Rattle.processor_decode.specs.Opcode.{decode_of}
use Rattle.word.specs.declared.width.Width.{Width}
use Rattle.processor_decode.specs.declared.Instruction.TheVariants.{Store, Out}
use Rattle.processor_machine.specs.State.{State, Stepped, reg_of}
use Rattle.processor_machine.specs.declared.Mode.{Mode}
use Rattle.processor_machine.specs.declared.Mode.TheVariants.{Running, Halted, Fatal}
use Rattle.processor_execute.specs.Transfer.{stored_of}
use Rattle.processor_execute.specs.Execute.{plus_of}
use Rattle.processor_step.specs.Step.{first_of, second_of, fetched_at, next_of, perform_of, running_step_of, step_in_of}
use Rattle.processor_step.specs.Interrupted.{accepts_in, interrupt_step_of}
use Rattle.processor_step.specs.Step.{instruction_step_of, step_of, not_fetched, fetched_in_of}
use Rattle.processor_step.specs.Step.{fetched_of}
use Rattle.processor_step.specs.declared.step.Fetched.{Fetched}
use Rattle.processor_decode.specs.declared.Instruction.{Instruction}

module _ (s : State) (m : Memory) (P : Memory → Type 0) (here : P m) where
  abbrev Leaves : Stepped → Type 0
  Leaves t = P t.memory

  leaves : (next : ℕ) → every.Leaves Leaves next s m
  leaves next = record { ended = λ regs sys pc psw. here; halted = here; trapped = λ c sys pc psw. here; fatal = λ c. here }

  -- what ST or OUT stores, where it is the instruction d
  abbrev pub Stored : Option Instruction → Type 0
  Stored d =
      (width : Width) (disp reg1 reg2 : ℕ)
      → (d ≡ Some (Store width disp reg1 reg2) → P (stored_of m width (plus_of (reg_of s reg1) disp) (reg_of s reg2)))
      × (d ≡ Some (Out width disp reg1 reg2) → P (stored_of m width (plus_of (reg_of s reg1) disp) (reg_of s reg2)))

  perform-leaves : (d : Option Instruction) (next : ℕ) → Stored d → Leaves (perform_of d next s m)
  perform-leaves (Some i) next h =
      every.execute-every Leaves next s m (leaves next) i
      (λ width disp reg1 reg2. (λ e. (h width disp reg1 reg2).0 (ap Some e), λ e. (h width disp reg1 reg2).1 (ap Some e)))
  perform-leaves None next h = here

  -- the instruction that was fetched
  abbrev pub StoredAt : Fetched → Type 0
  StoredAt f = Stored (decode_of f.first f.second)

  running-leaves : StoredAt (fetched_at s.pc m) → Leaves (running_step_of s m)
  unfolding running_step_of
  running-leaves h =
      let first = first_of s.pc m in
      perform-leaves (decode_of first (second_of (two_of first) s.pc m)) (next_of (two_of first) s.pc) h

  mode-leaves : (mode : Mode) → StoredAt (fetched_in_of mode s.pc m) → Leaves (step_in_of mode s m)
  mode-leaves Running h = running-leaves h
  mode-leaves Halted h = here
  mode-leaves Fatal h = here

  instruction-leaves : StoredAt (fetched_in_of s.mode s.pc m) → Leaves (instruction_step_of s m)
  unfolding instruction_step_of
  instruction-leaves h = mode-leaves s.mode h

  chosen-leaves : (b : Bool) → StoredAt (pick b not_fetched (fetched_in_of s.mode s.pc m)) → Leaves (pick b (interrupt_step_of s m) (instruction_step_of s m))
  chosen-leaves true h = here
  chosen-leaves false h = instruction-leaves h

  -- by the instruction that the step fetched
  pub step-stores : StoredAt (fetched_of s m) → P (step_of s m).memory
  unfolding step_of fetched_of
  step-stores h = chosen-leaves (accepts_in s m) h

-- whatever is stored
pub step-leaves : (s : State) (m : Memory) (P : Memory → Type 0) → P m → ((w : Width) (a v : ℕ) → P (stored_of m w a v)) → P (step_of s m).memory
step-leaves s m P here stored =
    step-stores s m P here
    (λ width disp reg1 reg2. (
      λ e. stored width (plus_of (reg_of s reg1) disp) (reg_of s reg2),
      λ e. stored width (plus_of (reg_of s reg1) disp) (reg_of s reg2),
    ))
