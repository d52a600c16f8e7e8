-- What an exception leaves (paper 01, "Exceptions"; paper 02, W4: "a trap leaves reg2 as found"): memory and every
-- general register, and of the rest everything but the exception's own registers. The statement; its proof is
-- `trap-leaves` in proofs/Trapping.
use Rattle.std.specs.Prelude.{ℕ, ◌/◌, ◌%◌, ◌<◌, List, [], ◌∷◌, ◌≡◌, ◌≢◌, length, get_or}
use Rattle.word.specs.Bit.{bit_at}
use Rattle.processor_arithmetic.specs.Flag.{ep_flag, np_flag}
use Rattle.processor_arithmetic.specs.Entry.{Enters}
use Rattle.bus.specs.Memory.{Memory}
use Rattle.processor_machine.specs.State.{eipc_place, eipsw_place, fepc_place, fepsw_place, ecr_place}
use Rattle.processor_machine.specs.State.{State, Stepped, state_of}
use Rattle.processor_machine.specs.Exception.{raise_of}
use Rattle.processor_machine.specs.FloatCause.{saved_of}
use Rattle.processor_machine.specs.declared.Cause.{Cause}
use Rattle.processor_machine.specs.declared.Mode.TheVariants.{Fatal}
use Rattle.processor_machine.specs.declared.Answer.TheVariants.{Trapped, TurnedFatal}

-- k is not one of these numbers
abbrev pub Outside : ℕ → List ℕ → Type 0
Outside k [] = Unit {0}
Outside k (n ∷ ns) = (k ≢ n) × Outside k ns

-- an entry: of the stored system registers those at the places `own` may change; `saved` is saved at one of them, at
-- `place`; PSW is `saved` with ID set, AE cleared, and EP or NP, whose place `flag` is, set
pub record Entered (own : List ℕ) (place flag saved : ℕ) (s t : State) : Type 0 where
  pub mode : t.mode ≡ s.mode
  pub system : (k : ℕ) → Outside k own → get_or t.sys k 0 ≡ get_or s.sys k 0
  pub kept : place < length s.sys → get_or t.sys place 0 ≡ saved
  pub psw : Enters flag saved t.psw

-- by NP and EP: the exception's registers are EIPC, EIPSW and the low half of ECR, or FEPC, FEPSW and its high half
pub record Leaves (cause : Cause) (s : State) (m : Memory) (t : Stepped) : Type 0 where
  pub memory : t.memory ≡ m
  pub general : t.state.regs ≡ s.regs
  pub fatal : bit_at np_flag s.psw ≡ 1
      → (t.answer ≡ TurnedFatal cause) × (t.state ≡ state_of s.regs s.sys s.pc s.psw Fatal)
  pub trapped : bit_at np_flag s.psw ≡ 0 → t.answer ≡ Trapped cause
  pub duplexed : bit_at np_flag s.psw ≡ 0 → bit_at ep_flag s.psw ≡ 1
      → Entered (fepc_place ∷ fepsw_place ∷ ecr_place ∷ []) fepsw_place np_flag (saved_of cause s.psw) s t.state
      × (get_or t.state.sys ecr_place 0 % 65536 ≡ get_or s.sys ecr_place 0 % 65536)
  pub regular : bit_at np_flag s.psw ≡ 0 → bit_at ep_flag s.psw ≡ 0
      → Entered (eipc_place ∷ eipsw_place ∷ ecr_place ∷ []) eipsw_place ep_flag (saved_of cause s.psw) s t.state
      × (get_or t.state.sys ecr_place 0 / 65536 ≡ get_or s.sys ecr_place 0 / 65536)

-- the exception of the instruction at PC, whatever its cause
abbrev pub TrapLeaves : Type 0
TrapLeaves = (cause : Cause) (next : ℕ) (s : State) (m : Memory) → Leaves cause s m (raise_of cause next s m)
