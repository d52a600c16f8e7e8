-- Document 000's "List of Instructions by Opcode": one row for each of the 64 opcodes, in order, each with its format
-- and mnemonic as there. f is the first halfword and s the second; an immediate is sign-extended by `extend_of`, or
-- zero-extended as it stands, MOVHI's too, which its execution shifts. Paper 01's Illegal opcodes are `Some Illegal`,
-- those that it leaves out `None`.
use Rattle.std.specs.Prelude.{ℕ, List, [], ◌∷◌, ◌++◌, get_or, replicate, Option, Some, None}
use Rattle.word.specs.Extend.{extend_of}
use Rattle.processor_decode.specs.Format.{low_of, reg2_of, register, immediate, setf, ldsr, stsr}
use Rattle.processor_decode.specs.Format.{opcode_of, branch, disp_of, long, transfer}
use Rattle.processor_decode.specs.SubOpcode.{extended_of}
use Rattle.processor_decode.specs.declared.RegisterOperation.{RegisterOperation}
use Rattle.processor_decode.specs.declared.ImmediateOperation.{ImmediateOperation}
use Rattle.processor_decode.specs.declared.LongOperation.{LongOperation}
use Rattle.word.specs.declared.width.Width.{Width}
use Rattle.processor_decode.specs.declared.Instruction.TheVariants.{Mul, Div, Mulu, Divu, Jmp, Cli, Sei, Trap}
use Rattle.processor_decode.specs.declared.Instruction.TheVariants.{Reti, Halt, Jr, Jal, Load, In, Store, Out}
use Rattle.processor_decode.specs.declared.Instruction.TheVariants.{Illegal}
use Rattle.processor_decode.specs.declared.Instruction.{Instruction}

-- opcodes 000000 to 011111
unfoldable pub short_rows : ℕ → List (Option Instruction)
short_rows f =
    -- 000000 I MOV
    register RegisterOperation.Mov f ∷
    -- 000001 I ADD
    register RegisterOperation.Add f ∷
    -- 000010 I SUB
    register RegisterOperation.Sub f ∷
    -- 000011 I CMP
    register RegisterOperation.Cmp f ∷
    -- 000100 I SHL
    register RegisterOperation.Shl f ∷
    -- 000101 I SHR
    register RegisterOperation.Shr f ∷
    -- 000110 I JMP
    Some (Jmp (low_of f)) ∷
    -- 000111 I SAR
    register RegisterOperation.Sar f ∷
    -- 001000 I MUL
    Some (Mul (low_of f) (reg2_of f)) ∷
    -- 001001 I DIV
    Some (Div (low_of f) (reg2_of f)) ∷
    -- 001010 I MULU
    Some (Mulu (low_of f) (reg2_of f)) ∷
    -- 001011 I DIVU
    Some (Divu (low_of f) (reg2_of f)) ∷
    -- 001100 I OR
    register RegisterOperation.Or f ∷
    -- 001101 I AND
    register RegisterOperation.And f ∷
    -- 001110 I XOR
    register RegisterOperation.Xor f ∷
    -- 001111 I NOT
    register RegisterOperation.Not f ∷
    -- 010000 II MOV
    immediate ImmediateOperation.Mov (extend_of 16 (low_of f)) f ∷
    -- 010001 II ADD
    immediate ImmediateOperation.Add (extend_of 16 (low_of f)) f ∷
    -- 010010 II SETF
    setf f ∷
    -- 010011 II CMP
    immediate ImmediateOperation.Cmp (extend_of 16 (low_of f)) f ∷
    -- 010100 II SHL
    immediate ImmediateOperation.Shl (low_of f) f ∷
    -- 010101 II SHR
    immediate ImmediateOperation.Shr (low_of f) f ∷
    -- 010110 II CLI
    Some Cli ∷
    -- 010111 II SAR
    immediate ImmediateOperation.Sar (low_of f) f ∷
    -- 011000 II TRAP
    Some (Trap (low_of f)) ∷
    -- 011001 II RETI
    Some Reti ∷
    -- 011010 II HALT
    Some Halt ∷
    -- 011011 - Invalid
    Some Illegal ∷
    -- 011100 II LDSR
    ldsr f ∷
    -- 011101 II STSR
    stsr f ∷
    -- 011110 II SEI
    Some Sei ∷
    -- 011111 II bit strings
    None ∷
    []

-- opcodes 100000 to 100111, whose top three bits are Bcond's opcode
unfoldable pub branch_rows : ℕ → List (Option Instruction)
branch_rows f = replicate 8 (branch f)

-- opcodes 101000 to 111111
unfoldable pub long_rows : ℕ → ℕ → List (Option Instruction)
long_rows f s =
    -- 101000 V MOVEA
    long LongOperation.Movea (extend_of 32768 s) f ∷
    -- 101001 V ADDI
    long LongOperation.Addi (extend_of 32768 s) f ∷
    -- 101010 IV JR
    Some (Jr (disp_of f s)) ∷
    -- 101011 IV JAL
    Some (Jal (disp_of f s)) ∷
    -- 101100 V ORI
    long LongOperation.Ori s f ∷
    -- 101101 V ANDI
    long LongOperation.Andi s f ∷
    -- 101110 V XORI
    long LongOperation.Xori s f ∷
    -- 101111 V MOVHI
    long LongOperation.Movhi s f ∷
    -- 110000 VI LD.B
    transfer Load Width.Byte f s ∷
    -- 110001 VI LD.H
    transfer Load Width.Half f s ∷
    -- 110010 - Invalid
    Some Illegal ∷
    -- 110011 VI LD.W
    transfer Load Width.Word f s ∷
    -- 110100 VI ST.B
    transfer Store Width.Byte f s ∷
    -- 110101 VI ST.H
    transfer Store Width.Half f s ∷
    -- 110110 - Invalid
    Some Illegal ∷
    -- 110111 VI ST.W
    transfer Store Width.Word f s ∷
    -- 111000 VI IN.B
    transfer In Width.Byte f s ∷
    -- 111001 VI IN.H
    transfer In Width.Half f s ∷
    -- 111010 VI CAXI
    None ∷
    -- 111011 VI IN.W
    transfer In Width.Word f s ∷
    -- 111100 VI OUT.B
    transfer Out Width.Byte f s ∷
    -- 111101 VI OUT.H
    transfer Out Width.Half f s ∷
    -- 111110 VII floating-point and Nintendo, by sub-opcode
    extended_of f s ∷
    -- 111111 VI OUT.W
    transfer Out Width.Word f s ∷
    []

-- the row of the opcode, the top six bits of the first halfword
unfoldable pub decode_of : ℕ → ℕ → Option Instruction
decode_of f s = get_or (short_rows f ++ (branch_rows f ++ long_rows f s)) (opcode_of f) None
