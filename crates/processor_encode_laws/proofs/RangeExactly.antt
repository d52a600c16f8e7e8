-- Refusal 12 exactly where a field is out of its range: `refused-exactly`; and the ranges hold exactly the instructions that
-- decoding gives: `range-exactly`, by the two round trips. Assumes nothing.
use Rattle.std.specs.Prelude.{Ok, Err}
use Prim.Native.Nat.{ℕ}
use mathlib.Core.Bool.{Bool, true, false, true≢false}
use mathlib.Core.Path.{◌≡◌, refl, sym, ◌∙◌}
use native.Mathlib.Omega.{arith}
use Rattle.word.specs.Choose.{pick}
use Rattle.refusal.specs.declared.Refusal.{Refusal}
use Rattle.refusal.specs.declared.Refusal.TheVariants.{Encoding}
use Rattle.processor_decode.specs.Format.{two_of}
use Rattle.processor_decode.specs.declared.Instruction.{Instruction}
use Rattle.processor_decode.specs.declared.Instruction.TheVariants.{Illegal}
use Rattle.processor_encode.specs.Format.{format_of, extended_formats}
use Rattle.processor_encode.specs.Fields.{fields_of}
use Rattle.processor_encode.specs.Range.{fits_of, in_range_of}
use Rattle.processor_encode.specs.Place.{Encoded, halfwords_of}
use Rattle.processor_encode.specs.Encode.{encode_of, encoded_of}
use Rattle.processor_encode.specs.Unused.{cleared_of, cleared_first, cleared_second}
use Rattle.processor_encode.specs.declared.Fields.{Fields}
use Rattle.processor_encode.specs.declared.Halfwords.TheVariants.{One, Two}
use Rattle.processor_encode.specs.declared.format.Format as format
use Rattle.processor_encode.specs.declared.format.Format.TheVariants.{Registers, Target, SignedImmediate}
use Rattle.processor_encode.specs.declared.format.Format.TheVariants.{UnsignedImmediate, Condition, Vector, Bare}
use Rattle.processor_encode.specs.declared.format.Format.TheVariants.{SystemRegister, Branch, Jump, SignedLong}
use Rattle.processor_encode.specs.declared.format.Format.TheVariants.{UnsignedLong, Extended, Exchange, Unlisted}
use Rattle.processor_encode_laws.specs.RoundTrip.{DecodesTo, Legal, RefusedExactly, Decodable, RangeExactly}
use Rattle.processor_encode_laws.proofs.RoundTrip.{decode-encode, encode-decode}

-- halfwords are not a refusal
one-refused : (f : ℕ) (n : Refusal) → ◌≡◌ {A = Encoded} (Ok (One f)) (Err n) → ⊥
one-refused f n e = cc

two-refused : (f s : ℕ) (n : Refusal) → ◌≡◌ {A = Encoded} (Ok (Two f s)) (Err n) → ⊥
two-refused f s n e = cc

two-apart : (t : Bool) (f s : ℕ) (n : Refusal) → ◌≡◌ {A = Encoded} (pick t (Ok (Two f s)) (Ok (One f))) (Err n) → ⊥
two-apart true f s n e = two-refused f s n e
two-apart false f s n e = one-refused f n e

-- a choice that is refused was not in range
refused-choice : (t : Bool) (h : Encoded) (n : Refusal) → (t ≡ true → (m : Refusal) → h ≡ Err m → ⊥) → pick t h (Err Encoding) ≡ Err n → t ≡ false
refused-choice true h n apart e = absurd (apart refl n e)
refused-choice false h n apart e = refl

-- fields in range are not refused
placed-apart : (t : format.Format) (x : Fields) → fits_of t x ≡ true → (n : Refusal) → halfwords_of t x ≡ Err n → ⊥
placed-apart Registers x h n e = one-refused _ n e
placed-apart Target x h n e = one-refused _ n e
placed-apart SignedImmediate x h n e = one-refused _ n e
placed-apart UnsignedImmediate x h n e = one-refused _ n e
placed-apart Condition x h n e = one-refused _ n e
placed-apart Vector x h n e = one-refused _ n e
placed-apart Bare x h n e = one-refused _ n e
placed-apart SystemRegister x h n e = one-refused _ n e
placed-apart Branch x h n e = one-refused _ n e
placed-apart Jump x h n e = two-refused _ _ n e
placed-apart SignedLong x h n e = two-refused _ _ n e
placed-apart UnsignedLong x h n e = two-refused _ _ n e
placed-apart Extended x h n e = two-refused _ _ n e
placed-apart Exchange x h n e = two-refused _ _ n e
placed-apart Unlisted x h n e = true≢false (sym h)

pub refused-exactly : RefusedExactly
unfolding encoded_of
refused-exactly i =
    let x = fields_of i in
    let t = format_of x.operation in
    (λ h. rw h, λ n e. refused-choice (fits_of t x) (halfwords_of t x) n (λ h. placed-apart t x h) e)

-- an instruction that is encoded is decodable
decodable : (i : Instruction) (r : Encoded) → DecodesTo i r → ((n : Refusal) → r ≡ Err n → ⊥) → Legal i → Decodable i
decodable i (Ok (One f)) d apart l =
    record { first = f; second = 0; first_half = d.0; second_half = omega arith; decodes = d.2 0; legal = l }
decodable i (Ok (Two f s)) d apart l =
    record { first = f; second = s; first_half = d.0; second_half = d.1; decodes = d.3; legal = l }
decodable i (Err n) d apart l = absurd (apart n refl)

illegal-refused : in_range_of Illegal ≡ false
unfolding format_of extended_formats
illegal-refused = refl

-- what clearing gives is not a refusal
cleared-apart : (f s : ℕ) (n : Refusal) → cleared_of f s ≡ Err n → ⊥
unfolding cleared_of
cleared-apart f s n e = two-apart (two_of f) (cleared_first f s) (cleared_second f s) n e

not-false : (t : Bool) → (t ≡ false → ⊥) → t ≡ true
not-false true h = refl
not-false false h = absurd (h refl)

pub range-exactly : RangeExactly
range-exactly i =
    let out = refused-exactly i in (
      λ h. decodable i (encode_of i) (decode-encode i) (λ n e. true≢false (sym h ∙ out.1 n e)) (λ e. true≢false (sym (rw e at h) ∙ illegal-refused)),
      λ d.
          let back = encode-decode d.first d.second d.first_half d.second_half i d.decodes d.legal in
          not-false (in_range_of i) (λ h. cleared-apart d.first d.second Encoding (sym back ∙ out.0 h)),
    )
