-- Opcode 111110 (request W4): the four floating traps set their own flag in the PSW that is saved and change no other
-- bit of it; every sub-opcode is decoded, by its six bits alone; an instruction of this opcode changes reg2 and its
-- flags and nothing else, or traps. The proofs are in proofs/Extending. What a trap leaves is Trapping.
use Rattle.std.specs.Prelude.{ℕ, ◌*◌, ◌/◌, ◌%◌, true, List, [], ◌∷◌, ◌≡◌, ◌≢◌, ◌⊎◌, get_or, None}
use Rattle.word.specs.Bit.{bit_at}
use Rattle.processor_arithmetic.specs.Flag.{z_flag, s_flag, ov_flag, cy_flag}
use Rattle.processor_arithmetic.specs.FloatFlag.{fud_flag, fov_flag, fzd_flag, fiv_flag, fro_flag}
use Rattle.word.specs.Choose.{member}
use Rattle.bus.specs.Memory.{Memory}
use Rattle.processor_decode.specs.SubOpcode.{extended_of}
use Rattle.processor_decode.specs.Opcode.{decode_of}
use Rattle.processor_decode.specs.declared.Instruction.TheVariants.{Cmpf, Floating, Nintendo}
use Rattle.processor_decode.specs.declared.sub_opcode.FloatingOperation.{FloatingOperation}
use Rattle.processor_decode.specs.declared.sub_opcode.NintendoOperation.{NintendoOperation}
use Rattle.processor_machine.specs.State.{State, Stepped}
use Rattle.processor_machine.specs.Exception.{code_of, raise_of}
use Rattle.processor_machine.specs.FloatCause.{saved_of}
use Rattle.processor_machine.specs.declared.Cause.{Cause}
use Rattle.processor_machine.specs.declared.Cause.TheVariants.{Float}
use Rattle.processor_machine.specs.declared.floating.FloatCause.{FloatCause}
use Rattle.processor_machine.specs.declared.Answer.TheVariants.{Ended}
use Rattle.processor_execute.specs.Execute.{execute_of}
use Rattle.processor_laws.specs.Trapping.{Outside}

-- "the corresponding flag is set in PSW, but otherwise will not be modified"
pub record Saves (cause : Cause) (flag : ℕ) : Type 0 where
  pub set : (psw : ℕ) → bit_at flag (saved_of cause psw) ≡ 1
  pub kept : (psw k : ℕ) → k ≢ flag → bit_at k (saved_of cause psw) ≡ bit_at k psw

pub record FlagsSaved : Type 0 where
  pub fro : Saves (Float FloatCause.Reserved) fro_flag
  pub fiv : Saves (Float FloatCause.Invalid) fiv_flag
  pub fzd : Saves (Float FloatCause.ZeroDivide) fzd_flag
  pub fov : Saves (Float FloatCause.Overflow) fov_flag

-- 111110 is 62
pub record Decodes (f s : ℕ) : Type 0 where
  pub row : f / 1024 ≡ 62 → decode_of f s ≡ extended_of f s
  pub modelled : extended_of f s ≡ None → ⊥
  pub ignored : extended_of f s ≡ extended_of f (s / 1024 * 1024)

-- an instruction that ended and goes on at `next`: memory, the system registers and the mode stay; of the general
-- registers those with the given numbers may change, of PSW the bits of the given flags, and nothing else
pub record Changes (registers flags : List ℕ) (next : ℕ) (s : State) (m : Memory) (t : Stepped) : Type 0 where
  pub answer : t.answer ≡ Ended
  pub memory : t.memory ≡ m
  pub general : (k : ℕ) → Outside k registers → get_or t.state.regs k 0 ≡ get_or s.regs k 0
  pub system : t.state.sys ≡ s.sys
  pub pc : t.state.pc ≡ next
  pub psw : (k : ℕ) → Outside k flags → bit_at k t.state.psw ≡ bit_at k s.psw
  pub mode : t.state.mode ≡ s.mode

-- a floating trap: the exception of the machine as the instruction found it, so that Trapping's statement holds of it
pub record Traps (next : ℕ) (s : State) (m : Memory) (t : Stepped) : Type 0 where
  pub cause : Cause
  pub floating : member (code_of cause) (0xFF60 ∷ 0xFF64 ∷ 0xFF68 ∷ 0xFF70 ∷ []) ≡ true
  pub raised : t ≡ raise_of cause next s m

-- the flags that may change: CY stays where the result is a whole number (ruling W4.4), and only the four operations
-- underflow
abbrev pub floating_flags : FloatingOperation → List ℕ
floating_flags FloatingOperation.CvtWs = z_flag ∷ s_flag ∷ ov_flag ∷ cy_flag ∷ []
floating_flags FloatingOperation.CvtSw = z_flag ∷ s_flag ∷ ov_flag ∷ []
floating_flags FloatingOperation.Addf = z_flag ∷ s_flag ∷ ov_flag ∷ cy_flag ∷ fud_flag ∷ []
floating_flags FloatingOperation.Subf = z_flag ∷ s_flag ∷ ov_flag ∷ cy_flag ∷ fud_flag ∷ []
floating_flags FloatingOperation.Mulf = z_flag ∷ s_flag ∷ ov_flag ∷ cy_flag ∷ fud_flag ∷ []
floating_flags FloatingOperation.Divf = z_flag ∷ s_flag ∷ ov_flag ∷ cy_flag ∷ fud_flag ∷ []
floating_flags FloatingOperation.TrncSw = z_flag ∷ s_flag ∷ ov_flag ∷ []

-- CMPF.S changes no general register
abbrev pub CmpfChanges : Type 0
CmpfChanges =
    (reg1 reg2 next : ℕ) (s : State) (m : Memory)
    → let t = execute_of (Cmpf reg1 reg2) next s m in
    Changes [] (z_flag ∷ s_flag ∷ ov_flag ∷ cy_flag ∷ []) next s m t ⊎ Traps next s m t

-- the other floating instructions change reg2, unless they trap
abbrev pub FloatingChanges : Type 0
FloatingChanges =
    (op : FloatingOperation) (reg1 reg2 next : ℕ) (s : State) (m : Memory)
    → let t = execute_of (Floating op reg1 reg2) next s m in
    Changes (reg2 % 32 ∷ []) (floating_flags op) next s m t ⊎ Traps next s m t

-- XB, XH, REV and MPYHW change reg2 and no flag, and do not trap
abbrev pub NintendoChanges : Type 0
NintendoChanges =
    (op : NintendoOperation) (reg1 reg2 next : ℕ) (s : State) (m : Memory)
    → Changes (reg2 % 32 ∷ []) [] next s m (execute_of (Nintendo op reg1 reg2) next s m)
