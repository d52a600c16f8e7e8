-- Opcode 111110 by sub-opcode, the top six bits of the second halfword s (document 000, "Format VII",
-- "Floating-Point", "Nintendo"): one row for each sub-opcode up to 001100, with its mnemonic as there. One that 000
-- does not list is illegal, and has two halfwords all the same.
use Rattle.std.specs.Prelude.{ℕ, ◌/◌, List, [], ◌∷◌, get_or, Option, Some}
use Rattle.processor_decode.specs.Format.{low_of, reg2_of}
use Rattle.processor_decode.specs.declared.sub_opcode.FloatingOperation.{FloatingOperation}
use Rattle.processor_decode.specs.declared.sub_opcode.NintendoOperation.{NintendoOperation}
use Rattle.processor_decode.specs.declared.Instruction.TheVariants.{Illegal, Cmpf, Floating, Nintendo}
use Rattle.processor_decode.specs.declared.Instruction.{Instruction}

-- Format VII: the other bits of s are "RFU"
abbrev pub cmpf : ℕ → Option Instruction
cmpf f = Some (Cmpf (low_of f) (reg2_of f))

abbrev pub floating : FloatingOperation → ℕ → Option Instruction
floating op f = Some (Floating op (low_of f) (reg2_of f))

abbrev pub nintendo : NintendoOperation → ℕ → Option Instruction
nintendo op f = Some (Nintendo op (low_of f) (reg2_of f))

-- XB and XH name reg2 alone: the bits of reg1 are unused, and reg1 is 0
abbrev pub exchange : NintendoOperation → ℕ → Option Instruction
exchange op f = Some (Nintendo op 0 (reg2_of f))

unfoldable pub sub_rows : ℕ → List (Option Instruction)
sub_rows f =
    -- 000000 CMPF.S
    cmpf f ∷
    -- 000001 - Invalid
    Some Illegal ∷
    -- 000010 CVT.WS
    floating FloatingOperation.CvtWs f ∷
    -- 000011 CVT.SW
    floating FloatingOperation.CvtSw f ∷
    -- 000100 ADDF.S
    floating FloatingOperation.Addf f ∷
    -- 000101 SUBF.S
    floating FloatingOperation.Subf f ∷
    -- 000110 MULF.S
    floating FloatingOperation.Mulf f ∷
    -- 000111 DIVF.S
    floating FloatingOperation.Divf f ∷
    -- 001000 XB
    exchange NintendoOperation.Xb f ∷
    -- 001001 XH
    exchange NintendoOperation.Xh f ∷
    -- 001010 REV
    nintendo NintendoOperation.Rev f ∷
    -- 001011 TRNC.SW
    floating FloatingOperation.TrncSw f ∷
    -- 001100 MPYHW
    nintendo NintendoOperation.Mpyhw f ∷
    []

-- the row of the sub-opcode; 001101 to 111111 are not listed
unfoldable pub extended_of : ℕ → ℕ → Option Instruction
extended_of f s = get_or (sub_rows f) (s / 1024) (Some Illegal)
