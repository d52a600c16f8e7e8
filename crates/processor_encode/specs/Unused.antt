-- Paper 02, W8: "its halfwords with unused bits cleared, among them bit 0 of a jump or branch offset and the top bit of
-- SETF's immediate". The unused bits of each format, from document 000, by the table of specs/Format; those of
-- halfwords that are invalid or not modelled are left as they are.
use Rattle.std.specs.Prelude.{ℕ, ◌+◌, ◌-◌, ◌*◌, ◌/◌, ◌%◌, ◌^◌, ltb, eqb, Ok}
use Rattle.word.specs.Choose.{pick}
use Rattle.processor_decode.specs.Format.{opcode_of, two_of}
use Rattle.processor_encode.specs.Format.{format_of}
use Rattle.processor_encode.specs.Place.{Encoded, extended_opcode}
use Rattle.processor_encode.specs.declared.Halfwords.TheVariants.{One, Two}
use Rattle.processor_encode.specs.declared.format.Format as format
use Rattle.processor_encode.specs.declared.format.Format.TheVariants.{Registers, Target, SignedImmediate}
use Rattle.processor_encode.specs.declared.format.Format.TheVariants.{UnsignedImmediate, Condition, Vector, Bare}
use Rattle.processor_encode.specs.declared.format.Format.TheVariants.{SystemRegister, Branch, Jump, SignedLong}
use Rattle.processor_encode.specs.declared.format.Format.TheVariants.{UnsignedLong, Extended, Exchange, Unlisted}

-- x with `count` bits cleared, of which the lowest is bit `low`
abbrev pub without : ℕ → ℕ → ℕ → ℕ
without low count x = x - x / 2 ^ low % 2 ^ count * 2 ^ low

-- 100000, the first of Bcond's eight opcodes
abbrev pub first_branch : ℕ
first_branch = 0x20

-- the operation of a first and a second halfword: the opcode, 32 for Bcond's eight, 64 and the sub-opcode for 111110
unfoldable pub operation_at : ℕ → ℕ → ℕ
operation_at f s =
    pick (ltb (opcode_of f) first_branch) (opcode_of f)
    (pick (ltb (opcode_of f) 0b101000) first_branch
    (pick (eqb (opcode_of f) extended_opcode) (64 + s / 2 ^ 10) (opcode_of f)))

-- the first halfword without its unused bits
abbrev pub first_without : format.Format → ℕ → ℕ
first_without Registers f = f
-- bits 9-5
first_without Target f = without 5 5 f
first_without SignedImmediate f = f
first_without UnsignedImmediate f = f
-- bit 4
first_without Condition f = without 4 1 f
-- bits 9-5
first_without Vector f = without 5 5 f
-- bits 9-0
first_without Bare f = without 0 10 f
first_without SystemRegister f = f
-- bit 0
first_without Branch f = without 0 1 f
first_without Jump f = f
first_without SignedLong f = f
first_without UnsignedLong f = f
first_without Extended f = f
-- bits 4-0
first_without Exchange f = without 0 5 f
first_without Unlisted f = f

-- the second halfword without its unused bits
abbrev pub second_without : format.Format → ℕ → ℕ
second_without Registers s = s
second_without Target s = s
second_without SignedImmediate s = s
second_without UnsignedImmediate s = s
second_without Condition s = s
second_without Vector s = s
second_without Bare s = s
second_without SystemRegister s = s
second_without Branch s = s
-- bit 0
second_without Jump s = without 0 1 s
second_without SignedLong s = s
second_without UnsignedLong s = s
-- bits 9-0
second_without Extended s = without 0 10 s
second_without Exchange s = without 0 10 s
second_without Unlisted s = s

unfoldable pub cleared_first : ℕ → ℕ → ℕ
cleared_first f s = first_without (format_of (operation_at f s)) f

unfoldable pub cleared_second : ℕ → ℕ → ℕ
cleared_second f s = second_without (format_of (operation_at f s)) s

-- the halfwords of the instruction, one or two as decoding takes them, without their unused bits
unfoldable pub cleared_of : ℕ → ℕ → Encoded
cleared_of f s = pick (two_of f) (Ok (Two (cleared_first f s) (cleared_second f s))) (Ok (One (cleared_first f s)))
