-- The instruction of given fields, by the number of its operation; an instruction is that of its own fields: `fields-again`. Assumes nothing.
use Prim.Native.Nat.{ℕ, ◌-◌}
use mathlib.Core.List.{List, [], ◌∷◌}
use mathlib.Core.Path.{◌≡◌, refl}
use lib.Dec.{ltb}
use lib.ListN.{get_or}
use Rattle.word.specs.Choose.{pick}
use Rattle.processor_decode.specs.declared.RegisterOperation.{RegisterOperation}
use Rattle.processor_decode.specs.declared.ImmediateOperation.{ImmediateOperation}
use Rattle.processor_decode.specs.declared.LongOperation.{LongOperation}
use Rattle.processor_decode.specs.declared.sub_opcode.FloatingOperation.{FloatingOperation}
use Rattle.processor_decode.specs.declared.sub_opcode.NintendoOperation.{NintendoOperation}
use Rattle.word.specs.declared.width.Width.{Width}
use Rattle.processor_decode.specs.declared.Instruction.{Instruction}
use Rattle.processor_decode.specs.declared.Instruction.TheVariants.{Register, Mul, Div, Mulu, Divu, Jmp, Immediate}
use Rattle.processor_decode.specs.declared.Instruction.TheVariants.{Setf, Cli, Sei, Trap, Reti, Halt, Ldsr, Stsr}
use Rattle.processor_decode.specs.declared.Instruction.TheVariants.{Bcond, Jr, Jal, Long, Load, In, Store, Out}
use Rattle.processor_decode.specs.declared.Instruction.TheVariants.{Illegal, Cmpf, Floating, Nintendo}
use Rattle.processor_encode.specs.Fields.{fields_of}
use Rattle.processor_encode.specs.declared.Fields.{Fields}

module _ (x : Fields) where
  -- Formats I and II, from 0
  unfoldable pub short_of : List Instruction
  short_of =
      Register RegisterOperation.Mov x.reg1 x.reg2 ∷
      Register RegisterOperation.Add x.reg1 x.reg2 ∷
      Register RegisterOperation.Sub x.reg1 x.reg2 ∷
      Register RegisterOperation.Cmp x.reg1 x.reg2 ∷
      Register RegisterOperation.Shl x.reg1 x.reg2 ∷
      Register RegisterOperation.Shr x.reg1 x.reg2 ∷
      Jmp x.reg1 ∷
      Register RegisterOperation.Sar x.reg1 x.reg2 ∷
      Mul x.reg1 x.reg2 ∷
      Div x.reg1 x.reg2 ∷
      Mulu x.reg1 x.reg2 ∷
      Divu x.reg1 x.reg2 ∷
      Register RegisterOperation.Or x.reg1 x.reg2 ∷
      Register RegisterOperation.And x.reg1 x.reg2 ∷
      Register RegisterOperation.Xor x.reg1 x.reg2 ∷
      Register RegisterOperation.Not x.reg1 x.reg2 ∷
      Immediate ImmediateOperation.Mov x.immediate x.reg2 ∷
      Immediate ImmediateOperation.Add x.immediate x.reg2 ∷
      Setf x.condition x.reg2 ∷
      Immediate ImmediateOperation.Cmp x.immediate x.reg2 ∷
      Immediate ImmediateOperation.Shl x.immediate x.reg2 ∷
      Immediate ImmediateOperation.Shr x.immediate x.reg2 ∷
      Cli ∷
      Immediate ImmediateOperation.Sar x.immediate x.reg2 ∷
      Trap x.immediate ∷
      Reti ∷
      Halt ∷
      Illegal ∷
      Ldsr x.reg2 x.immediate ∷
      Stsr x.immediate x.reg2 ∷
      Sei ∷
      Illegal ∷
      []

  -- Formats III to VI, from 32
  unfoldable pub long_of : List Instruction
  long_of =
      Bcond x.condition x.immediate ∷
      Illegal ∷
      Illegal ∷
      Illegal ∷
      Illegal ∷
      Illegal ∷
      Illegal ∷
      Illegal ∷
      Long LongOperation.Movea x.immediate x.reg1 x.reg2 ∷
      Long LongOperation.Addi x.immediate x.reg1 x.reg2 ∷
      Jr x.immediate ∷
      Jal x.immediate ∷
      Long LongOperation.Ori x.immediate x.reg1 x.reg2 ∷
      Long LongOperation.Andi x.immediate x.reg1 x.reg2 ∷
      Long LongOperation.Xori x.immediate x.reg1 x.reg2 ∷
      Long LongOperation.Movhi x.immediate x.reg1 x.reg2 ∷
      Load Width.Byte x.immediate x.reg1 x.reg2 ∷
      Load Width.Half x.immediate x.reg1 x.reg2 ∷
      Illegal ∷
      Load Width.Word x.immediate x.reg1 x.reg2 ∷
      Store Width.Byte x.immediate x.reg1 x.reg2 ∷
      Store Width.Half x.immediate x.reg1 x.reg2 ∷
      Illegal ∷
      Store Width.Word x.immediate x.reg1 x.reg2 ∷
      In Width.Byte x.immediate x.reg1 x.reg2 ∷
      In Width.Half x.immediate x.reg1 x.reg2 ∷
      Illegal ∷
      In Width.Word x.immediate x.reg1 x.reg2 ∷
      Out Width.Byte x.immediate x.reg1 x.reg2 ∷
      Out Width.Half x.immediate x.reg1 x.reg2 ∷
      Illegal ∷
      Out Width.Word x.immediate x.reg1 x.reg2 ∷
      []

  -- Format VII, from 64
  unfoldable pub extended_of : List Instruction
  extended_of =
      Cmpf x.reg1 x.reg2 ∷
      Illegal ∷
      Floating FloatingOperation.CvtWs x.reg1 x.reg2 ∷
      Floating FloatingOperation.CvtSw x.reg1 x.reg2 ∷
      Floating FloatingOperation.Addf x.reg1 x.reg2 ∷
      Floating FloatingOperation.Subf x.reg1 x.reg2 ∷
      Floating FloatingOperation.Mulf x.reg1 x.reg2 ∷
      Floating FloatingOperation.Divf x.reg1 x.reg2 ∷
      Nintendo NintendoOperation.Xb x.reg1 x.reg2 ∷
      Nintendo NintendoOperation.Xh x.reg1 x.reg2 ∷
      Nintendo NintendoOperation.Rev x.reg1 x.reg2 ∷
      Floating FloatingOperation.TrncSw x.reg1 x.reg2 ∷
      Nintendo NintendoOperation.Mpyhw x.reg1 x.reg2 ∷
      []

  unfoldable pub instruction_at : ℕ → Instruction
  instruction_at n =
      pick (ltb n 32) (get_or short_of n Illegal)
      (pick (ltb n 64) (get_or long_of (n - 32) Illegal) (get_or extended_of (n - 64) Illegal))

abbrev pub instruction_of : Fields → Instruction
instruction_of x = instruction_at x x.operation

pub fields-again : (i : Instruction) → instruction_of (fields_of i) ≡ i
unfolding instruction_at short_of long_of extended_of
fields-again (Register RegisterOperation.Mov a b) = refl
fields-again (Register RegisterOperation.Add a b) = refl
fields-again (Register RegisterOperation.Sub a b) = refl
fields-again (Register RegisterOperation.Cmp a b) = refl
fields-again (Register RegisterOperation.Shl a b) = refl
fields-again (Register RegisterOperation.Shr a b) = refl
fields-again (Register RegisterOperation.Sar a b) = refl
fields-again (Register RegisterOperation.Or a b) = refl
fields-again (Register RegisterOperation.And a b) = refl
fields-again (Register RegisterOperation.Xor a b) = refl
fields-again (Register RegisterOperation.Not a b) = refl
fields-again (Mul a b) = refl
fields-again (Div a b) = refl
fields-again (Mulu a b) = refl
fields-again (Divu a b) = refl
fields-again (Jmp a) = refl
fields-again (Immediate ImmediateOperation.Mov a b) = refl
fields-again (Immediate ImmediateOperation.Add a b) = refl
fields-again (Immediate ImmediateOperation.Cmp a b) = refl
fields-again (Immediate ImmediateOperation.Shl a b) = refl
fields-again (Immediate ImmediateOperation.Shr a b) = refl
fields-again (Immediate ImmediateOperation.Sar a b) = refl
fields-again (Setf a b) = refl
fields-again Cli = refl
fields-again Sei = refl
fields-again (Trap a) = refl
fields-again Reti = refl
fields-again Halt = refl
fields-again (Ldsr a b) = refl
fields-again (Stsr a b) = refl
fields-again (Bcond a b) = refl
fields-again (Jr a) = refl
fields-again (Jal a) = refl
fields-again (Long LongOperation.Movea a b d) = refl
fields-again (Long LongOperation.Addi a b d) = refl
fields-again (Long LongOperation.Ori a b d) = refl
fields-again (Long LongOperation.Andi a b d) = refl
fields-again (Long LongOperation.Xori a b d) = refl
fields-again (Long LongOperation.Movhi a b d) = refl
fields-again (Load Width.Byte a b d) = refl
fields-again (Load Width.Half a b d) = refl
fields-again (Load Width.Word a b d) = refl
fields-again (Store Width.Byte a b d) = refl
fields-again (Store Width.Half a b d) = refl
fields-again (Store Width.Word a b d) = refl
fields-again (In Width.Byte a b d) = refl
fields-again (In Width.Half a b d) = refl
fields-again (In Width.Word a b d) = refl
fields-again (Out Width.Byte a b d) = refl
fields-again (Out Width.Half a b d) = refl
fields-again (Out Width.Word a b d) = refl
fields-again (Cmpf a b) = refl
fields-again (Floating FloatingOperation.CvtWs a b) = refl
fields-again (Floating FloatingOperation.CvtSw a b) = refl
fields-again (Floating FloatingOperation.Addf a b) = refl
fields-again (Floating FloatingOperation.Subf a b) = refl
fields-again (Floating FloatingOperation.Mulf a b) = refl
fields-again (Floating FloatingOperation.Divf a b) = refl
fields-again (Floating FloatingOperation.TrncSw a b) = refl
fields-again (Nintendo NintendoOperation.Xb a b) = refl
fields-again (Nintendo NintendoOperation.Xh a b) = refl
fields-again (Nintendo NintendoOperation.Rev a b) = refl
fields-again (Nintendo NintendoOperation.Mpyhw a b) = refl
fields-again Illegal = refl
