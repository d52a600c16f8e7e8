-- The ranges of an instruction's fields (paper 02, W8: "a field out of its range, an odd jump or branch offset, system
-- register 24, or an illegal opcode"), as document 000 prints them for each format. A field that the format does not
-- have is 0. An immediate is a word, a negative one its two's complement.
use Rattle.std.specs.Prelude.{ℕ, ◌-◌, ◌%◌, ◌^◌, Bool, true, false, ltb, eqb}
use Rattle.word.specs.Choose.{pick}
use Rattle.processor_decode.specs.declared.Instruction.{Instruction}
use Rattle.processor_encode.specs.Fields.{fields_of}
use Rattle.processor_encode.specs.Format.{format_of}
use Rattle.processor_encode.specs.declared.Fields as fields
use Rattle.processor_encode.specs.declared.format.Format as format
use Rattle.processor_encode.specs.declared.format.Format.TheVariants.{Registers, Target, SignedImmediate}
use Rattle.processor_encode.specs.declared.format.Format.TheVariants.{UnsignedImmediate, Condition, Vector, Bare}
use Rattle.processor_encode.specs.declared.format.Format.TheVariants.{SystemRegister, Branch, Jump, SignedLong}
use Rattle.processor_encode.specs.declared.format.Format.TheVariants.{UnsignedLong, Extended, Exchange, Unlisted}

-- a word that is at least -half and below half
unfoldable pub signed_in : ℕ → ℕ → Bool
signed_in half x = pick (ltb x half) true (pick (ltb x (2 ^ 32 - half)) false (ltb x (2 ^ 32)))

-- the same, and even
unfoldable pub even_in : ℕ → ℕ → Bool
even_in half x = pick (eqb (x % 2) 0) (signed_in half x) false

-- a system register, but for 24
unfoldable pub system_fits : ℕ → Bool
system_fits x = pick (eqb x 24) false (ltb x 32)

-- each field is below its limit, 1 where the format does not have it, and the immediate in its range
unfoldable pub within : (x : fields.Fields) (reg1 reg2 condition : ℕ) (immediate : Bool) → Bool
within x reg1 reg2 condition immediate =
    pick (ltb x.reg1 reg1)
    (pick (ltb x.reg2 reg2) (pick (ltb x.condition condition) immediate false) false) false

abbrev pub fits_of : format.Format → fields.Fields → Bool
fits_of Registers x = within x 32 32 1 (ltb x.immediate 1)
fits_of Target x = within x 32 1 1 (ltb x.immediate 1)
-- -16 to 15
fits_of SignedImmediate x = within x 1 32 1 (signed_in 16 x.immediate)
-- 0 to 31
fits_of UnsignedImmediate x = within x 1 32 1 (ltb x.immediate 32)
fits_of Condition x = within x 1 32 16 (ltb x.immediate 1)
fits_of Vector x = within x 1 1 1 (ltb x.immediate 32)
fits_of Bare x = within x 1 1 1 (ltb x.immediate 1)
fits_of SystemRegister x = within x 1 32 1 (system_fits x.immediate)
-- even, -256 to 254
fits_of Branch x = within x 1 1 16 (even_in 256 x.immediate)
-- even, -33,554,432 to 33,554,430
fits_of Jump x = within x 1 1 1 (even_in 33554432 x.immediate)
-- -32,768 to 32,767
fits_of SignedLong x = within x 32 32 1 (signed_in 32768 x.immediate)
-- 0 to 65,535
fits_of UnsignedLong x = within x 32 32 1 (ltb x.immediate 65536)
fits_of Extended x = within x 32 32 1 (ltb x.immediate 1)
fits_of Exchange x = within x 1 32 1 (ltb x.immediate 1)
fits_of Unlisted x = false

-- whether the fields are those of an instruction
abbrev pub in_range : fields.Fields → Bool
in_range x = fits_of (format_of x.operation) x

abbrev pub in_range_of : Instruction → Bool
in_range_of i = in_range (fields_of i)
