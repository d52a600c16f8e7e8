-- Which bytes that a step read are undefined (paper 02, W2): "Loads and fetches pass the fact on; the step's answer
-- holds it for each fetched halfword and for the load apart, a byte not read counting as defined." As masks: bit k is
-- set where byte k was read and is undefined.
use Rattle.std.specs.Prelude.{ℕ, ◌+◌, ◌%◌, ◌^◌, Option, Some, None}
use Rattle.word.specs.Choose.{pick}
use Rattle.bus.specs.Memory.{Memory}
use Rattle.bus_defined.specs.Defined.{undefined_of}
use Rattle.processor_decode.specs.Format.{two_of}
use Rattle.processor_decode.specs.Opcode.{decode_of}
use Rattle.processor_decode.specs.declared.Instruction.{Instruction}
use Rattle.processor_decode.specs.declared.Instruction.TheVariants.{Register, Mul, Div, Mulu, Divu, Jmp, Immediate}
use Rattle.processor_decode.specs.declared.Instruction.TheVariants.{Setf, Cli, Sei, Trap, Reti, Halt, Ldsr, Stsr}
use Rattle.processor_decode.specs.declared.Instruction.TheVariants.{Bcond, Jr, Jal, Long, Load, In, Store, Out}
use Rattle.processor_decode.specs.declared.Instruction.TheVariants.{Illegal, Cmpf, Floating, Nintendo}
use Rattle.processor_machine.specs.State.{State, reg_of}
use Rattle.processor_machine.specs.declared.Answer.{Answer}
use Rattle.processor_machine.specs.declared.Answer.TheVariants.{Ended, Trapped, Interrupted, TurnedFatal, WasHalted}
use Rattle.processor_machine.specs.declared.Answer.TheVariants.{WasFatal, Refused}
use Rattle.processor_execute.specs.Transfer.{size_of}
use Rattle.processor_execute.specs.Execute.{plus_of}
use Rattle.processor_step.specs.Step.{step_of, fetched_of}
use Rattle.processor_step.specs.declared.step.Fetched.{Fetched}
use Rattle.processor_undefined.specs.declared.Undefined.{Undefined}

-- the mask of an instruction's load: LD and IN read at their effective address, the others load nothing
abbrev pub load_undefined_of : Instruction → State → Memory → ℕ
load_undefined_of (Load width disp reg1 reg2) s m = undefined_of m (size_of width) (plus_of (reg_of s reg1) disp)
load_undefined_of (In width disp reg1 reg2) s m = undefined_of m (size_of width) (plus_of (reg_of s reg1) disp)
load_undefined_of (Register op reg1 reg2) s m = 0
load_undefined_of (Immediate op imm reg2) s m = 0
load_undefined_of (Long op imm reg1 reg2) s m = 0
load_undefined_of (Mul reg1 reg2) s m = 0
load_undefined_of (Mulu reg1 reg2) s m = 0
load_undefined_of (Div reg1 reg2) s m = 0
load_undefined_of (Divu reg1 reg2) s m = 0
load_undefined_of (Setf cond reg2) s m = 0
load_undefined_of (Store width disp reg1 reg2) s m = 0
load_undefined_of (Out width disp reg1 reg2) s m = 0
load_undefined_of (Bcond cond disp) s m = 0
load_undefined_of (Jmp reg1) s m = 0
load_undefined_of (Jr disp) s m = 0
load_undefined_of (Jal disp) s m = 0
load_undefined_of (Trap vector) s m = 0
load_undefined_of Reti s m = 0
load_undefined_of Halt s m = 0
load_undefined_of (Ldsr reg2 id) s m = 0
load_undefined_of (Stsr id reg2) s m = 0
load_undefined_of Cli s m = 0
load_undefined_of Sei s m = 0
load_undefined_of Illegal s m = 0
load_undefined_of (Cmpf reg1 reg2) s m = 0
load_undefined_of (Floating op reg1 reg2) s m = 0
load_undefined_of (Nintendo op reg1 reg2) s m = 0

abbrev pub decoded_load_of : Option Instruction → State → Memory → ℕ
decoded_load_of (Some i) s m = load_undefined_of i s m
decoded_load_of None s m = 0

-- the mask of the second halfword, which is read where the first asks for it
unfoldable pub second_undefined_of : ℕ → ℕ → Memory → ℕ
second_undefined_of first pc m = pick (two_of first) (undefined_of m 2 ((pc + 2) % 2 ^ 32)) 0

-- the masks of a step that fetched these halfwords
abbrev pub read_of : Fetched → State → Memory → Undefined
read_of h s m =
    record {
      first = undefined_of m 2 s.pc;
      second = second_undefined_of h.first s.pc m;
      load = decoded_load_of (decode_of h.first h.second) s m;
    }

-- nothing was read, or nothing of it is undefined
abbrev pub none_of : Undefined
none_of = record { first = 0; second = 0; load = 0 }

-- by the answer: a trapped step and one that turned fatal have fetched; a step in halted or fatal mode and one that
-- accepted an interrupt have not, and a refusal answers its number alone
abbrev pub undefined_when : Answer → Undefined → Undefined
undefined_when Ended u = u
undefined_when (Trapped cause) u = u
undefined_when (Interrupted level) u = none_of
undefined_when (TurnedFatal cause) u = u
undefined_when WasHalted u = none_of
undefined_when WasFatal u = none_of
undefined_when (Refused n) u = none_of

-- the masks of a step, by the state and the memory before it
unfoldable pub undefined_step_of : State → Memory → Undefined
undefined_step_of s m = undefined_when (step_of s m).answer (read_of (fetched_of s m) s m)
