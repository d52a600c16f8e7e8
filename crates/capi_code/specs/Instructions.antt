-- What the C boundary gives for an instruction and for halfwords (include/vb.h): the refusal's number, how many
-- halfwords there are, and the halfwords or the fields, 0 where there are none.
use Rattle.std.specs.Prelude.{ℕ, Bool, true, false, Option, Some, None, Ok, Err}
use Rattle.refusal.specs.Number.{number_of}
use Rattle.refusal.specs.declared.Refusal.TheVariants as refusal
use Rattle.processor_encode.specs.Fields.{fields_of, numbers}
use Rattle.processor_encode.specs.declared.Fields.{Fields}
use Rattle.processor_encode.specs.Place.{Encoded}
use Rattle.processor_encode.specs.declared.Halfwords.TheVariants.{One, Two}
use Rattle.capi_code.specs.declared.instructions.VbInstruction.{VbInstruction}
use Rattle.capi_code.specs.declared.instructions.VbEncoded.{VbEncoded}
use Rattle.capi_code.specs.declared.instructions.VbDecoded.{VbDecoded}
use Rattle.processor_decode.specs.declared.Instruction.{Instruction}

-- the record member by member
abbrev pub fields_in : VbInstruction → Fields
fields_in i = numbers i.operation i.reg1 i.reg2 i.condition i.immediate

abbrev pub fields_out : Fields → VbInstruction
fields_out x =
    record {
      operation = x.operation;
      reg1 = x.reg1;
      reg2 = x.reg2;
      condition = x.condition;
      immediate = x.immediate;
    }

abbrev pub length_of : Bool → ℕ
length_of true = 2
length_of false = 1

abbrev pub encoded_at : Encoded → VbEncoded
encoded_at (Ok (One f)) = record { refusal = 0; halfwords = 1; first = f; second = 0 }
encoded_at (Ok (Two f s)) = record { refusal = 0; halfwords = 2; first = f; second = s }
encoded_at (Err n) = record { refusal = number_of n; halfwords = 0; first = 0; second = 0 }

abbrev pub decoded_at : Option Instruction → Bool → VbDecoded
decoded_at (Some i) two = record { refusal = 0; halfwords = length_of two; instruction = fields_out (fields_of i) }
decoded_at None two =
    record { refusal = number_of refusal.NotModelled; halfwords = 0; instruction = fields_out (numbers 0 0 0 0 0) }
