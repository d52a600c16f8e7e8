-- Encoding and decoding undo each other: `decode-encode`, `encode-decode` and `cleared-decodes`, by the law of the formats. Assumes nothing.
use Rattle.std.specs.Prelude.{Option, Some, None, Err}
use Prim.Native.Nat.{ℕ, ◌<◌}
use mathlib.Core.Bool.{true, false}
use mathlib.Core.Path.{◌≡◌, refl, ◌∙◌, ap}
use lib.Dec.{ltb, eqb}
use Rattle.refusal.specs.declared.Refusal.TheVariants.{Encoding}
use Rattle.processor_decode.specs.Opcode.{decode_of}
use Rattle.processor_decode.specs.declared.Instruction.TheVariants.{Illegal}
use Rattle.processor_encode.specs.Format.{format_of}
use Rattle.processor_encode.specs.Fields.{fields_of}
use Rattle.processor_encode.specs.Range.{fits_of, in_range}
use Rattle.processor_encode.specs.Place.{halfwords_of}
use Rattle.processor_encode.specs.Encode.{encoded_of}
use Rattle.processor_encode.specs.Unused.{operation_at, cleared_first, cleared_second}
use Rattle.processor_encode.specs.declared.Fields.{Fields}
use Rattle.processor_encode.specs.declared.format.Format as format
use Rattle.processor_encode_laws.specs.RoundTrip.{DecodesTo, DecodeEncode, EncodeDecode, FieldsExactly}
use Rattle.processor_encode_laws.specs.Clearing.{ClearedDecodes}
use Rattle.word.proofs.Choices.{pick-cases}
use Rattle.processor_encode_laws.proofs.Encoding.{Facts, legal-row, absent-row, illegal-row, encoded-in}
use Rattle.processor_encode_laws.proofs.Instructions.{instruction_at, instruction_of, fields-again}
use Rattle.processor_encode_laws.proofs.Formats.{fields_at, read-operation, absent, other_of, number-fits, instruction-fields, decode-row}
use Rattle.processor_encode_laws.proofs.Placing.{absent-kept, having-all, decodes-placed, read_fits, placed-read}
use Rattle.processor_decode.specs.declared.Instruction.{Instruction}

-- what is encoded decodes to the instruction of its fields
fields-decode : (x : Fields) → DecodesTo (instruction_of x) (encoded_of x)
unfolding encoded_of
fields-decode x =
    let t = format_of x.operation in
    pick-cases (DecodesTo (instruction_of x)) (fits_of t x) (halfwords_of t x) (Err Encoding)
    (λ h. decodes-placed x t refl (number-fits x.operation) h) (λ h. tt)

pub decode-encode : DecodeEncode
decode-encode i = rw (fields-again i) at (fields-decode (fields_of i))

-- an instruction has the fields that it was made of, where they are in range
instruction-all : (x : Fields) → in_range x ≡ true → fields_of (instruction_of x) ≡ x
instruction-all x h = instruction-fields x x.operation ∙ having-all x (format_of x.operation) h

pub fields-exactly : FieldsExactly
fields-exactly x h = record { instruction = instruction_of x; fields = instruction-all x h; decodes = fields-decode x }

-- what the decoder gives where there is no instruction
other-case : (P : Option Instruction → Type 0) → P None → P (Some Illegal) → (n : ℕ) → P (other_of n)
unfolding other_of
other-case P a b n =
    pick-cases P (ltb n 64) _ _
    (λ h.
    pick-cases P (eqb n 28) _ _ (λ h. a)
    (λ h. pick-cases P (eqb n 29) _ _ (λ h. a) (λ h. pick-cases P (eqb n 31) _ _ (λ h. a) (λ h. pick-cases P (eqb n 58) _ _ (λ h. a) (λ h. b)))))
    (λ h. b)

module _ (f s : ℕ) (hf : f < 65536) (hs : s < 65536) where
  abbrev n : ℕ
  n = operation_at f s

  abbrev t : format.Format
  t = format_of n

  absent-facts : absent t f ≡ true → Facts f s (other_of n)
  unfolding cleared_first cleared_second
  absent-facts p =
      let kept = absent-kept t f s p in
      other-case (λ (d : Option Instruction). decode_of f s ≡ d → Facts f s d) (absent-row f s kept.0 kept.1) (illegal-row f s kept.0 kept.1) n
      (decode-row f s hf ∙ rw p)

  listed-facts : absent t f ≡ false → Facts f s (Some (instruction_at (fields_at t n f s) n))
  listed-facts p =
      let x = fields_at t n f s in
      let i = instruction_at x n in
      let o : (fields_at t n f s).operation ≡ n = read-operation t n f s in
      let fits = read_fits n f s hs t p in
      let range : in_range (fields_at t n f s) ≡ true = rw o fits in
      let fields : fields_of (instruction_at (fields_at t n f s) n) ≡ fields_at t n f s = instruction-fields x n ∙ (rw o at (having-all x t fits)) in
      legal-row f s i (decode-encode i)
      (ap encoded_of fields ∙ encoded-in x range ∙ rw o (placed-read n f s hf hs refl t refl (number-fits n) p))

  facts : Facts f s (decode_of f s)
  facts = rw (decode-row f s hf) (pick-cases (Facts f s) (absent t f) _ _ absent-facts listed-facts)

pub encode-decode : EncodeDecode
encode-decode f s hf hs i e l = (facts f s hf hs).legal i e l

pub cleared-decodes : ClearedDecodes
cleared-decodes f s hf hs = (facts f s hf hs).decodes
