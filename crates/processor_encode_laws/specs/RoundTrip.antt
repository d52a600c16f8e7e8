-- Paper 02, W8: "Decoding that gives the same instruction. Encoding what was decoded, unless illegal, gives its
-- halfwords with unused bits cleared". The statements, over every instruction and every pair of halfwords; the proofs
-- of the same names are in proofs/.
use Rattle.std.specs.Prelude.{ℕ, ◌<◌, true, false, ◌≡◌, Some, Ok, Err}
use Rattle.refusal.specs.declared.Refusal.{Refusal}
use Rattle.refusal.specs.declared.Refusal.TheVariants.{Encoding}
use Rattle.processor_decode.specs.Format.{two_of}
use Rattle.processor_decode.specs.Opcode.{decode_of}
use Rattle.processor_decode.specs.declared.Instruction.{Instruction}
use Rattle.processor_decode.specs.declared.Instruction.TheVariants.{Illegal}
use Rattle.processor_encode.specs.Fields.{fields_of}
use Rattle.processor_encode.specs.Range.{in_range, in_range_of}
use Rattle.processor_encode.specs.Encode.{encode_of, encoded_of}
use Rattle.processor_encode.specs.Unused.{cleared_of}
use Rattle.processor_encode.specs.declared.Fields.{Fields}
use Rattle.processor_encode.specs.Place.{Encoded}
use Rattle.processor_encode.specs.declared.Halfwords.TheVariants.{One, Two}

-- these are halfwords, as many as decoding takes, that decode to the instruction: one with any second halfword
abbrev pub DecodesTo : Instruction → Encoded → Type 0
DecodesTo i (Ok (One f)) = (f < 65536) × (two_of f ≡ false) × ((s : ℕ) → decode_of f s ≡ Some i)
DecodesTo i (Ok (Two f s)) = (f < 65536) × (s < 65536) × (two_of f ≡ true) × (decode_of f s ≡ Some i)
DecodesTo i (Err n) = Unit {0}

-- what is encoded decodes to the instruction
abbrev pub DecodeEncode : Type 0
DecodeEncode = (i : Instruction) → DecodesTo i (encode_of i)

abbrev pub Legal : Instruction → Type 0
Legal i = i ≡ Illegal → ⊥

-- what is decoded, unless illegal, is encoded as its halfwords with unused bits cleared
abbrev pub EncodeDecode : Type 0
EncodeDecode =
    (f s : ℕ) → f < 65536 → s < 65536 → (i : Instruction) → decode_of f s ≡ Some i → Legal i
    → encode_of i ≡ cleared_of f s

-- refusal 12, and no other, exactly where a field is out of its range
abbrev pub RefusedExactly : Type 0
RefusedExactly =
    (i : Instruction)
    → (in_range_of i ≡ false → encode_of i ≡ Err Encoding)
    × ((n : Refusal) → encode_of i ≡ Err n → in_range_of i ≡ false)

-- some halfwords decode to the instruction, and it is legal
pub record Decodable (i : Instruction) : Type 0 where
  pub first : ℕ
  pub second : ℕ
  pub first_half : first < 65536
  pub second_half : second < 65536
  pub decodes : decode_of first second ≡ Some i
  pub legal : Legal i

-- the fields' ranges hold exactly the instructions that decoding gives
abbrev pub RangeExactly : Type 0
RangeExactly = (i : Instruction) → (in_range_of i ≡ true → Decodable i) × (Decodable i → in_range_of i ≡ true)

-- fields in range are those of an instruction, to which their halfwords decode: so they come back member by member
pub record FieldsOf (x : Fields) : Type 0 where
  pub instruction : Instruction
  pub fields : fields_of instruction ≡ x
  pub decodes : DecodesTo instruction (encoded_of x)

abbrev pub FieldsExactly : Type 0
FieldsExactly = (x : Fields) → in_range x ≡ true → FieldsOf x
