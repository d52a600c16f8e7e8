-- The formats of document 000 ("Instruction Formats", "List of Instructions by Opcode") as one table, which ranges,
-- places and unused bits share. An operation's number is its opcode, 32 for Bcond, and 64 and the sub-opcode under
-- opcode 111110. What 000 calls invalid, and what is not modelled, is `Unlisted`.
use Rattle.std.specs.Prelude.{ℕ, ◌-◌, List, [], ◌∷◌, ltb, get_or}
use Rattle.word.specs.Choose.{pick}
use Rattle.processor_encode.specs.declared.format.Format as format
use Rattle.processor_encode.specs.declared.format.Format.TheVariants.{Registers, Target, SignedImmediate}
use Rattle.processor_encode.specs.declared.format.Format.TheVariants.{UnsignedImmediate, Condition, Vector, Bare}
use Rattle.processor_encode.specs.declared.format.Format.TheVariants.{SystemRegister, Branch, Jump, SignedLong}
use Rattle.processor_encode.specs.declared.format.Format.TheVariants.{UnsignedLong, Extended, Exchange, Unlisted}

-- opcodes 000000 to 011111: Formats I and II
unfoldable pub short_formats : List format.Format
short_formats =
    -- 0 MOV
    Registers ∷
    -- 1 ADD
    Registers ∷
    -- 2 SUB
    Registers ∷
    -- 3 CMP
    Registers ∷
    -- 4 SHL
    Registers ∷
    -- 5 SHR
    Registers ∷
    -- 6 JMP
    Target ∷
    -- 7 SAR
    Registers ∷
    -- 8 MUL
    Registers ∷
    -- 9 DIV
    Registers ∷
    -- 10 MULU
    Registers ∷
    -- 11 DIVU
    Registers ∷
    -- 12 OR
    Registers ∷
    -- 13 AND
    Registers ∷
    -- 14 XOR
    Registers ∷
    -- 15 NOT
    Registers ∷
    -- 16 MOV, immediate
    SignedImmediate ∷
    -- 17 ADD, immediate
    SignedImmediate ∷
    -- 18 SETF
    Condition ∷
    -- 19 CMP, immediate
    SignedImmediate ∷
    -- 20 SHL, immediate
    UnsignedImmediate ∷
    -- 21 SHR, immediate
    UnsignedImmediate ∷
    -- 22 CLI
    Bare ∷
    -- 23 SAR, immediate
    UnsignedImmediate ∷
    -- 24 TRAP
    Vector ∷
    -- 25 RETI
    Bare ∷
    -- 26 HALT
    Bare ∷
    -- 27 invalid
    Unlisted ∷
    -- 28 LDSR
    SystemRegister ∷
    -- 29 STSR
    SystemRegister ∷
    -- 30 SEI
    Bare ∷
    -- 31 bit strings, not modelled
    Unlisted ∷
    []

-- Bcond, Format III, and opcodes 101000 to 111111: Formats IV to VI
unfoldable pub long_formats : List format.Format
long_formats =
    -- 32 Bcond, for all eight opcodes 100000 to 100111
    Branch ∷
    -- 33 to 39 are not operation numbers
    Unlisted ∷
    Unlisted ∷
    Unlisted ∷
    Unlisted ∷
    Unlisted ∷
    Unlisted ∷
    Unlisted ∷
    -- 40 MOVEA
    SignedLong ∷
    -- 41 ADDI
    SignedLong ∷
    -- 42 JR
    Jump ∷
    -- 43 JAL
    Jump ∷
    -- 44 ORI
    UnsignedLong ∷
    -- 45 ANDI
    UnsignedLong ∷
    -- 46 XORI
    UnsignedLong ∷
    -- 47 MOVHI
    UnsignedLong ∷
    -- 48 LD.B
    SignedLong ∷
    -- 49 LD.H
    SignedLong ∷
    -- 50 invalid
    Unlisted ∷
    -- 51 LD.W
    SignedLong ∷
    -- 52 ST.B
    SignedLong ∷
    -- 53 ST.H
    SignedLong ∷
    -- 54 invalid
    Unlisted ∷
    -- 55 ST.W
    SignedLong ∷
    -- 56 IN.B
    SignedLong ∷
    -- 57 IN.H
    SignedLong ∷
    -- 58 CAXI, not modelled
    Unlisted ∷
    -- 59 IN.W
    SignedLong ∷
    -- 60 OUT.B
    SignedLong ∷
    -- 61 OUT.H
    SignedLong ∷
    -- 62 by sub-opcode, below
    Unlisted ∷
    -- 63 OUT.W
    SignedLong ∷
    []

-- 64 and the sub-opcode: Format VII
unfoldable pub extended_formats : List format.Format
extended_formats =
    -- 64 CMPF.S
    Extended ∷
    -- 65 not listed
    Unlisted ∷
    -- 66 CVT.WS
    Extended ∷
    -- 67 CVT.SW
    Extended ∷
    -- 68 ADDF.S
    Extended ∷
    -- 69 SUBF.S
    Extended ∷
    -- 70 MULF.S
    Extended ∷
    -- 71 DIVF.S
    Extended ∷
    -- 72 XB
    Exchange ∷
    -- 73 XH
    Exchange ∷
    -- 74 REV
    Extended ∷
    -- 75 TRNC.SW
    Extended ∷
    -- 76 MPYHW
    Extended ∷
    []

unfoldable pub format_of : ℕ → format.Format
format_of n =
    pick (ltb n 32) (get_or short_formats n Unlisted)
    (pick (ltb n 64) (get_or long_formats (n - 32) Unlisted) (get_or extended_formats (n - 64) Unlisted))
