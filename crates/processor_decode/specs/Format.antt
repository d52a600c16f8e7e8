-- The instruction formats of document 000 ("Instruction Formats"): the fields of a first halfword f and a second
-- halfword s, and what each format makes of them. An immediate or displacement comes as a word, "(sign extend)" or
-- "(zero extend)" as 000's list of instructions says for each.
use Rattle.std.specs.Prelude.{ℕ, ◌+◌, ◌*◌, ◌/◌, ◌%◌, ◌^◌, Bool, true, false, eqb, ltb, Option, Some, None}
use Rattle.word.specs.Choose.{pick}
use Rattle.word.specs.Extend.{extend_of}
use Rattle.processor_decode.specs.declared.RegisterOperation.{RegisterOperation}
use Rattle.processor_decode.specs.declared.ImmediateOperation.{ImmediateOperation}
use Rattle.processor_decode.specs.declared.LongOperation.{LongOperation}
use Rattle.word.specs.declared.width.Width.{Width}
use Rattle.processor_decode.specs.declared.Instruction.{Instruction}
use Rattle.processor_decode.specs.declared.Instruction.TheVariants.{Register, Immediate, Setf, Ldsr, Stsr, Bcond}
use Rattle.processor_decode.specs.declared.Instruction.TheVariants.{Long}

-- bits 4-0: reg1, an immediate, a vector, a system register
abbrev pub low_of : ℕ → ℕ
low_of f = f % 32

-- bits 9-5: reg2
abbrev pub reg2_of : ℕ → ℕ
reg2_of f = f / 32 % 32

-- Format I
abbrev pub register : RegisterOperation → ℕ → Option Instruction
register op f = Some (Register op (low_of f) (reg2_of f))

-- Format II
abbrev pub immediate : ImmediateOperation → (imm f : ℕ) → Option Instruction
immediate op imm f = Some (Immediate op imm (reg2_of f))

-- SETF: "the low four bits of its immediate"
abbrev pub setf : ℕ → Option Instruction
setf f = Some (Setf (f % 16) (reg2_of f))

-- LDSR and STSR, not modelled where they name register 24
abbrev pub ldsr : ℕ → Option Instruction
ldsr f = pick (eqb (low_of f) 24) None (Some (Ldsr (reg2_of f) (low_of f)))

abbrev pub stsr : ℕ → Option Instruction
stsr f = pick (eqb (low_of f) 24) None (Some (Stsr (low_of f) (reg2_of f)))

-- Format III: the condition in bits 12-9, the displacement in bits 8-0, bit 0 cleared
abbrev pub branch : ℕ → Option Instruction
branch f = Some (Bcond (f / 512 % 16) (extend_of 256 (f % 512 / 2 * 2)))

-- Format IV's displacement: bits 9-0 and the second halfword, bit 0 cleared
abbrev pub disp_of : ℕ → ℕ → ℕ
disp_of f s = extend_of 33554432 (f % 1024 * 65536 + s / 2 * 2)

-- Format V
abbrev pub long : LongOperation → (imm f : ℕ) → Option Instruction
long op imm f = Some (Long op imm (low_of f) (reg2_of f))

-- Format VI, of a load, store, input or output: "Sign-extended address displacement offset"
abbrev pub transfer : (Width → ℕ → ℕ → ℕ → Instruction) → Width → ℕ → ℕ → Option Instruction
transfer instruction w f s = Some (instruction w (extend_of 32768 s) (low_of f) (reg2_of f))

-- the opcode, bits 15-10
abbrev pub opcode_of : ℕ → ℕ
opcode_of f = f / 2 ^ 10

-- Formats IV to VII have two halfwords: opcodes from 101000 up, but for the two illegal ones there
abbrev pub two_of : ℕ → Bool
two_of f =
    pick (ltb (opcode_of f) 0b101000) false
    (pick (eqb (opcode_of f) 0b110010) false (pick (eqb (opcode_of f) 0b110110) false true))
