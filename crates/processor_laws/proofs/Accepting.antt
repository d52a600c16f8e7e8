-- `step-accepted`, `run-accepted`, `run-count`, `machine-accepted-means` and `machine-means-accepted`: the statements of specs/Accepted.
use Rattle.std.specs.Prelude.{Option, Some, None}
use Prim.Native.Nat.{ℕ, zero, suc, ◌+◌, ◌%◌, ◌^◌, ◌≤◌, ◌<◌}
use mathlib.Core.Bool.{Bool}
use native.Mathlib.Omega.{arith}
use lib.ListN.{length}
use Rattle.word.proofs.Choices.{pick-cases, pick-each}
use Rattle.bus_timer.proofs.Accepting as hardware
use Rattle.bus.specs.TimerLines.{hardware_in}
use Rattle.bus.specs.Memory.{Memory, load_of}
use Rattle.bus.proofs.Accepted.{accepted-registers, lengths-accepted}
use Rattle.bus.proofs.Kept.{register-within, within-drawing, registers-both, both-registers}
use Rattle.bus.proofs.Bytes.{load_fits}
use Rattle.processor_decode.specs.Format.{two_of}
use Rattle.processor_decode.specs.Opcode.{decode_of}
use Rattle.processor_machine.specs.State.{State, Stepped}
use Rattle.processor_step.specs.Step.{first_of, second_of, next_of, perform_of, running_step_of, step_in_of, instruction_step_of}
use Rattle.processor_step.specs.Interrupted.{lines_in, accepts_in, interrupt_step_of}
use Rattle.processor_step.specs.Step.{step_of}
use Rattle.processor_interrupt.specs.Interrupt.{level_of}
use Rattle.processor_interrupt.proofs.Exactly.{accepts-taken}
use Rattle.processor_machine.specs.System.{psw_bits_of}
use Rattle.processor_machine.specs.declared.Mode.{Mode}
use Rattle.processor_machine.specs.declared.Mode.TheVariants.{Running, Halted, Fatal}
use Rattle.processor.specs.Run.{Run, after_of, after_step, run_of, After}
use Rattle.processor_laws.specs.Accepted.{Machine, StepAccepted, RunAccepted, RunCount, MachineAcceptedMeans, MachineMeansAccepted}
use Rattle.processor_laws.proofs.Invariant.{Address, Good, told, tells, machine-good, good-machine}
use Rattle.processor_laws.proofs.Immediates.{Found, decoded-found}
use Rattle.processor_laws.proofs.Exceptions.{Left, interrupt-left}
use Rattle.processor_laws.proofs.Executes.{execute-left}
use Rattle.processor_decode.specs.declared.Instruction.{Instruction}

next_address : (two : Bool) (pc : ℕ) → Address pc → Address (next_of two pc)
unfolding next_of
next_address two pc h =
    pick-each Address two ((pc + 4) % 2 ^ 32) ((pc + 2) % 2 ^ 32) record { word = omega arith; even = omega arith }
    record { word = omega arith; even = omega arith }

module _ (s : State) (m : Memory) (g : Good s m) where
  second_half : (two : Bool) (pc : ℕ) → second_of two pc m < 65536
  unfolding second_of
  second_half two pc =
      let none : 0 < 65536 = omega arith in
      pick-each (λ (x : ℕ). x < 65536) two (load_of m 2 ((pc + 2) % 2 ^ 32)) 0 (load_fits m g.memories.bytes 2 ((pc + 2) % 2 ^ 32)) none

  perform-left : (d : Option Instruction) (next : ℕ) → Found d → Address next → Left (perform_of d next s m)
  perform-left (Some i) next f hn = execute-left s m g next hn i f
  perform-left None next f hn = g

  running-left : Left (running_step_of s m)
  unfolding running_step_of
  running-left =
      let first = first_of s.pc m in
      let two = two_of first in
      perform-left (decode_of first (second_of two s.pc m)) (next_of two s.pc)
      (decoded-found first (second_of two s.pc m) (second_half two s.pc)) (next_address two s.pc g.address)

  step-in-left : (mode : Mode) → Left (step_in_of mode s m)
  step-in-left Running = running-left
  step-in-left Halted = g
  step-in-left Fatal = g

  instruction-left : Left (instruction_step_of s m)
  unfolding instruction_step_of
  instruction-left = step-in-left s.mode

  step_left : Left (step_of s m)
  unfolding step_of
  step_left =
      pick-cases Left (accepts_in s m) (interrupt_step_of s m) (instruction_step_of s m)
      (λ e. interrupt-left (level_of (lines_in m)) s m (accepts-taken (lines_in m) s.psw s.mode e).acceptable.level_below g)
      (λ e. instruction-left)

-- a step leaves an accepted machine
pub step-accepted : StepAccepted
step-accepted s m h = good-machine (step_of s m).state (step_of s m).memory (step_left s m (machine-good s m h))

-- the machine after a run
abbrev AfterRun : Run → Type 0
AfterRun r = Machine r.state r.memory

after-accepted : (a : After) (t : Stepped) (rest : Run) → Machine t.state t.memory → AfterRun rest → AfterRun (after_step a t rest)
after-accepted None t rest h k = k
after-accepted (Some v) t rest h k = h

-- a run leaves an accepted machine
pub run-accepted : RunAccepted
unfolding run_of
run-accepted zero s m h = h
run-accepted (suc budget) s m h =
    let t = step_of s m in
    let k : Machine t.state t.memory = step-accepted s m h in
    after-accepted (after_of t.answer) t (run_of budget t.state t.memory) k (run-accepted budget t.state t.memory k)

after-count : (a : After) (t : Stepped) (rest : Run) (budget : ℕ) → rest.count ≤ budget → (after_step a t rest).count ≤ suc budget
after-count None t rest budget h = omega arith
after-count (Some v) t rest budget h = omega arith

-- a run counts at most its budget
pub run-count : RunCount
unfolding run_of
run-count zero s m = omega arith
run-count (suc budget) s m =
    let t = step_of s m in
    after-count (after_of t.answer) t (run_of budget t.state t.memory) budget (run-count budget t.state t.memory)

-- what 5 says of an accepted machine
pub machine-accepted-means : MachineAcceptedMeans
unfolding psw_bits_of
machine-accepted-means s m k =
    let t = told s m k.accepted in
    let p = t.1 in
    let w = accepted-registers (length m.rom) (length m.wram) (length m.vram) (length m.pak) m.regs t.0 in
    let h = hardware.accepted-means (hardware_in m.regs) (registers-both m.regs w).1 in
    record {
      zero_register = p.zero_register;
      pc_even = p.pc_even;
      eipc_even = p.eipc_even;
      fepc_even = p.fepc_even;
      sr25_even = p.sr25_even;
      psw_bits = p.psw-format;
      eipsw_bits = p.eipsw-format;
      fepsw_bits = p.fepsw-format;
      sr31_most = p.sr31_most;
      drawing_widths = register-within m.regs w;
      lines_and_timer = h;
    }

-- and the other way
pub machine-means-accepted : MachineMeansAccepted
unfolding psw_bits_of
machine-means-accepted s m l p =
    let h = hardware.means-accepted (hardware_in m.regs) p.lines_and_timer in
    tells s m (lengths-accepted _ _ _ _ m.regs l (both-registers m.regs (within-drawing m.regs p.drawing_widths) h))
    record {
      zero_register = p.zero_register;
      pc_even = p.pc_even;
      eipc_even = p.eipc_even;
      fepc_even = p.fepc_even;
      sr25_even = p.sr25_even;
      psw-format = p.psw_bits;
      eipsw-format = p.eipsw_bits;
      fepsw-format = p.fepsw_bits;
      sr31_most = p.sr31_most;
    }
