-- Paper 02, W8: "Turn an instruction with its fields into one or two halfwords", or refusal 12 where a field is out of
-- its range.
use Rattle.std.specs.Prelude.{Err}
use Rattle.word.specs.Choose.{pick}
use Rattle.refusal.specs.declared.Refusal.TheVariants.{Encoding}
use Rattle.processor_decode.specs.declared.Instruction.{Instruction}
use Rattle.processor_encode.specs.Fields.{fields_of}
use Rattle.processor_encode.specs.Format.{format_of}
use Rattle.processor_encode.specs.Range.{in_range}
use Rattle.processor_encode.specs.Place.{Encoded, halfwords_of}
use Rattle.processor_encode.specs.declared.Fields as fields

unfoldable pub encoded_of : fields.Fields → Encoded
encoded_of x = pick (in_range x) (halfwords_of (format_of x.operation) x) (Err Encoding)

abbrev pub encode_of : Instruction → Encoded
encode_of i = encoded_of (fields_of i)
