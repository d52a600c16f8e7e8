-- An instruction as numbers: the number of its operation (specs/Format), and its fields. A field that its format does
-- not have is 0. Names and operands are those of document 000's list of instructions.
use Rattle.std.specs.Prelude.{ℕ, ◌+◌}
use Rattle.processor_decode.specs.declared.RegisterOperation.{RegisterOperation}
use Rattle.processor_decode.specs.declared.ImmediateOperation.{ImmediateOperation}
use Rattle.processor_decode.specs.declared.LongOperation.{LongOperation}
use Rattle.processor_decode.specs.declared.sub_opcode.FloatingOperation.{FloatingOperation}
use Rattle.processor_decode.specs.declared.sub_opcode.NintendoOperation.{NintendoOperation}
use Rattle.word.specs.declared.width.Width.{Width}
use Rattle.processor_decode.specs.declared.Instruction.{Instruction}
use Rattle.processor_decode.specs.declared.Instruction.TheVariants.{Register, Mul, Div, Mulu, Divu, Jmp, Immediate}
use Rattle.processor_decode.specs.declared.Instruction.TheVariants.{Setf, Cli, Sei, Trap, Reti, Halt, Ldsr, Stsr}
use Rattle.processor_decode.specs.declared.Instruction.TheVariants.{Bcond, Jr, Jal, Long, Load, In, Store, Out}
use Rattle.processor_decode.specs.declared.Instruction.TheVariants.{Illegal, Cmpf, Floating, Nintendo}
use Rattle.processor_encode.specs.declared.Fields as fields

abbrev pub numbers : (operation reg1 reg2 condition immediate : ℕ) → fields.Fields
numbers operation reg1 reg2 condition immediate =
    record { operation = operation; reg1 = reg1; reg2 = reg2; condition = condition; immediate = immediate }

abbrev pub register_number : RegisterOperation → ℕ
register_number RegisterOperation.Mov = 0
register_number RegisterOperation.Add = 1
register_number RegisterOperation.Sub = 2
register_number RegisterOperation.Cmp = 3
register_number RegisterOperation.Shl = 4
register_number RegisterOperation.Shr = 5
register_number RegisterOperation.Sar = 7
register_number RegisterOperation.Or = 12
register_number RegisterOperation.And = 13
register_number RegisterOperation.Xor = 14
register_number RegisterOperation.Not = 15

abbrev pub immediate_number : ImmediateOperation → ℕ
immediate_number ImmediateOperation.Mov = 16
immediate_number ImmediateOperation.Add = 17
immediate_number ImmediateOperation.Cmp = 19
immediate_number ImmediateOperation.Shl = 20
immediate_number ImmediateOperation.Shr = 21
immediate_number ImmediateOperation.Sar = 23

abbrev pub long_number : LongOperation → ℕ
long_number LongOperation.Movea = 40
long_number LongOperation.Addi = 41
long_number LongOperation.Ori = 44
long_number LongOperation.Andi = 45
long_number LongOperation.Xori = 46
long_number LongOperation.Movhi = 47

-- of a load, store, input or output, by the number of its byte operation
abbrev pub width_number : ℕ → Width → ℕ
width_number byte Width.Byte = byte
width_number byte Width.Half = byte + 1
width_number byte Width.Word = byte + 3

abbrev pub floating_number : FloatingOperation → ℕ
floating_number FloatingOperation.CvtWs = 66
floating_number FloatingOperation.CvtSw = 67
floating_number FloatingOperation.Addf = 68
floating_number FloatingOperation.Subf = 69
floating_number FloatingOperation.Mulf = 70
floating_number FloatingOperation.Divf = 71
floating_number FloatingOperation.TrncSw = 75

abbrev pub nintendo_number : NintendoOperation → ℕ
nintendo_number NintendoOperation.Xb = 72
nintendo_number NintendoOperation.Xh = 73
nintendo_number NintendoOperation.Rev = 74
nintendo_number NintendoOperation.Mpyhw = 76

-- the fields of an instruction; 255 stands for Illegal, which no format lists
abbrev pub fields_of : Instruction → fields.Fields
fields_of (Register op reg1 reg2) = numbers (register_number op) reg1 reg2 0 0
fields_of (Mul reg1 reg2) = numbers 8 reg1 reg2 0 0
fields_of (Div reg1 reg2) = numbers 9 reg1 reg2 0 0
fields_of (Mulu reg1 reg2) = numbers 10 reg1 reg2 0 0
fields_of (Divu reg1 reg2) = numbers 11 reg1 reg2 0 0
fields_of (Jmp reg1) = numbers 6 reg1 0 0 0
fields_of (Immediate op imm reg2) = numbers (immediate_number op) 0 reg2 0 imm
fields_of (Setf cond reg2) = numbers 18 0 reg2 cond 0
fields_of Cli = numbers 22 0 0 0 0
fields_of Sei = numbers 30 0 0 0 0
fields_of (Trap vector) = numbers 24 0 0 0 vector
fields_of Reti = numbers 25 0 0 0 0
fields_of Halt = numbers 26 0 0 0 0
fields_of (Ldsr reg2 id) = numbers 28 0 reg2 0 id
fields_of (Stsr id reg2) = numbers 29 0 reg2 0 id
fields_of (Bcond cond disp) = numbers 32 0 0 cond disp
fields_of (Jr disp) = numbers 42 0 0 0 disp
fields_of (Jal disp) = numbers 43 0 0 0 disp
fields_of (Long op imm reg1 reg2) = numbers (long_number op) reg1 reg2 0 imm
fields_of (Load width disp reg1 reg2) = numbers (width_number 48 width) reg1 reg2 0 disp
fields_of (Store width disp reg1 reg2) = numbers (width_number 52 width) reg1 reg2 0 disp
fields_of (In width disp reg1 reg2) = numbers (width_number 56 width) reg1 reg2 0 disp
fields_of (Out width disp reg1 reg2) = numbers (width_number 60 width) reg1 reg2 0 disp
fields_of (Cmpf reg1 reg2) = numbers 64 reg1 reg2 0 0
fields_of (Floating op reg1 reg2) = numbers (floating_number op) reg1 reg2 0 0
fields_of (Nintendo op reg1 reg2) = numbers (nintendo_number op) reg1 reg2 0 0
fields_of Illegal = numbers 255 0 0 0 0
