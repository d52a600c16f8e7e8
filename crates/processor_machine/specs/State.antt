-- The processor while it runs: the 32 general registers, the system registers that are stored, PC, PSW and the mode.
-- The eight stored system registers stand in one list: EIPC, EIPSW, FEPC, FEPSW, ECR, 25, 29, 31.
use Rattle.std.specs.Prelude.{ℕ, ◌-◌, ◌%◌, List, eqb, get_or, set}
use Rattle.word.specs.Choose.{pick}
use Rattle.bus.specs.Memory.{Memory}
use Rattle.processor_machine.specs.declared.Mode.{Mode}
use Rattle.processor_machine.specs.declared.Mode.TheVariants.{Running}
use Rattle.processor_machine.specs.declared.Answer.{Answer}
use Rattle.processor_machine.specs.declared.Answer.TheVariants.{Ended}
use Rattle.processor_machine.specs.declared.Control.{Control}

-- the place of each in that list
abbrev pub eipc_place : ℕ
eipc_place = 0

abbrev pub eipsw_place : ℕ
eipsw_place = 1

abbrev pub fepc_place : ℕ
fepc_place = 2

abbrev pub fepsw_place : ℕ
fepsw_place = 3

abbrev pub ecr_place : ℕ
ecr_place = 4

abbrev pub sr25_place : ℕ
sr25_place = 5

abbrev pub sr29_place : ℕ
sr29_place = 6

abbrev pub sr31_place : ℕ
sr31_place = 7

pub record State : Type 0 where
  pub regs : List ℕ
  pub sys : List ℕ
  pub pc : ℕ
  pub psw : ℕ
  pub mode : Mode

abbrev pub state_of : (regs sys : List ℕ) (pc psw : ℕ) (mode : Mode) → State
state_of regs sys pc psw mode = record { regs = regs; sys = sys; pc = pc; psw = psw; mode = mode }

-- what a step gives: what it did, and the machine afterwards
pub record Stepped : Type 0 where
  pub answer : Answer
  pub state : State
  pub memory : Memory

abbrev pub stepped_of : Answer → State → Memory → Stepped
stepped_of answer state memory = record { answer = answer; state = state; memory = memory }

-- the same put together from the caller's registers and memories and what the code returns
abbrev pub leaves : List ℕ → List ℕ → Control → Memory → Stepped
leaves regs sys r m = stepped_of r.answer (state_of regs sys r.pc r.psw r.mode) m

-- an instruction that ended, going on at pc
abbrev pub ended_at : ℕ → ℕ → Control
ended_at pc psw = record { pc = pc; psw = psw; mode = Running; answer = Ended }

-- a general register, by the five bits of its number
abbrev pub reg_of : State → ℕ → ℕ
reg_of s n = get_or s.regs (n % 32) 0

-- the general registers with one written: "Register 0 reads 0 and drops writes"
unfoldable pub put_of : List ℕ → ℕ → ℕ → List ℕ
put_of regs n v = pick (eqb (n % 32) 0) regs (set regs (n % 32) v)

-- an address without its bit 0
abbrev pub even_of : ℕ → ℕ
even_of a = a - a % 2
