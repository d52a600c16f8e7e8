-- Where the fields of an instruction stand in its halfwords (document 000, "Instruction Formats"): each takes as many
-- low bits of its field as the format has for it.
use Rattle.std.specs.Prelude.{ℕ, ◌+◌, ◌*◌, ◌/◌, ◌%◌, ◌^◌, Result, Ok, Err}
use Rattle.refusal.specs.declared.Refusal.{Refusal}
use Rattle.refusal.specs.declared.Refusal.TheVariants.{Encoding}
use Rattle.processor_encode.specs.declared.Fields as fields
use Rattle.processor_encode.specs.declared.Halfwords.{Halfwords}
use Rattle.processor_encode.specs.declared.Halfwords.TheVariants.{One, Two}
use Rattle.processor_encode.specs.declared.format.Format as format
use Rattle.processor_encode.specs.declared.format.Format.TheVariants.{Registers, Target, SignedImmediate}
use Rattle.processor_encode.specs.declared.format.Format.TheVariants.{UnsignedImmediate, Condition, Vector, Bare}
use Rattle.processor_encode.specs.declared.format.Format.TheVariants.{SystemRegister, Branch, Jump, SignedLong}
use Rattle.processor_encode.specs.declared.format.Format.TheVariants.{UnsignedLong, Extended, Exchange, Unlisted}

-- one halfword or two; or the refusal, which is `Encoding`
abbrev pub Encoded : Type 0
Encoded = Result Halfwords Refusal

-- 111110, the opcode of Format VII
abbrev pub extended_opcode : ℕ
extended_opcode = 0x3E

-- the opcode in bits 15-10, reg2 in bits 9-5, and reg1, an immediate or a condition in bits 4-0
abbrev pub placed : ℕ → ℕ → ℕ → ℕ
placed opcode reg2 low = opcode % 64 * 1024 + reg2 % 32 * 32 + low % 32

-- Format III: 100 in bits 15-13, the condition in bits 12-9, the offset in bits 8-0
abbrev pub branch_placed : ℕ → ℕ → ℕ
branch_placed condition offset = 4 * 2 ^ 13 + condition % 16 * 2 ^ 9 + offset % 2 ^ 9

-- Format IV: the opcode in bits 15-10, bits 25-16 of the offset in bits 9-0; the others are the second halfword
abbrev pub jump_placed : ℕ → ℕ → ℕ
jump_placed opcode offset = opcode % 64 * 1024 + offset / 65536 % 1024

abbrev pub low_half : ℕ → ℕ
low_half x = x % 65536

-- Format VII's second halfword: the sub-opcode in bits 15-10
abbrev pub sub_opcode : ℕ → ℕ
sub_opcode operation = operation % 64 * 1024

abbrev pub halfwords_of : format.Format → fields.Fields → Encoded
halfwords_of Registers x = Ok (One (placed x.operation x.reg2 x.reg1))
halfwords_of Target x = Ok (One (placed x.operation 0 x.reg1))
halfwords_of SignedImmediate x = Ok (One (placed x.operation x.reg2 x.immediate))
halfwords_of UnsignedImmediate x = Ok (One (placed x.operation x.reg2 x.immediate))
halfwords_of Condition x = Ok (One (placed x.operation x.reg2 x.condition))
halfwords_of Vector x = Ok (One (placed x.operation 0 x.immediate))
halfwords_of Bare x = Ok (One (placed x.operation 0 0))
halfwords_of SystemRegister x = Ok (One (placed x.operation x.reg2 x.immediate))
halfwords_of Branch x = Ok (One (branch_placed x.condition x.immediate))
halfwords_of Jump x = Ok (Two (jump_placed x.operation x.immediate) (low_half x.immediate))
halfwords_of SignedLong x = Ok (Two (placed x.operation x.reg2 x.reg1) (low_half x.immediate))
halfwords_of UnsignedLong x = Ok (Two (placed x.operation x.reg2 x.reg1) (low_half x.immediate))
halfwords_of Extended x = Ok (Two (placed extended_opcode x.reg2 x.reg1) (sub_opcode x.operation))
halfwords_of Exchange x = Ok (Two (placed extended_opcode x.reg2 0) (sub_opcode x.operation))
halfwords_of Unlisted x = Err Encoding
