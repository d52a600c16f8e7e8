-- What is to be shown of each row of the decoder's list: `Facts`, and the two ways to show it, for a legal instruction and
-- for a row that is invalid or not modelled. Assumes nothing.
use Rattle.std.specs.Prelude.{Option, Some, None, Ok}
use Prim.Native.Nat.{ℕ}
use mathlib.Core.Bool.{Bool, true, false}
use mathlib.Core.Path.{◌≡◌, sym}
use Rattle.word.specs.Choose.{pick}
use Rattle.processor_decode.specs.Format.{two_of}
use Rattle.processor_decode.specs.Opcode.{decode_of}
use Rattle.processor_decode.specs.declared.Instruction.{Instruction}
use Rattle.processor_decode.specs.declared.Instruction.TheVariants.{Illegal}
use Rattle.processor_encode.specs.Format.{format_of}
use Rattle.processor_encode.specs.Range.{in_range}
use Rattle.processor_encode.specs.Place.{halfwords_of}
use Rattle.processor_encode.specs.Encode.{encode_of, encoded_of}
use Rattle.processor_encode.specs.Unused.{cleared_of, cleared_first, cleared_second}
use Rattle.processor_encode.specs.declared.Fields.{Fields}
use Rattle.processor_encode.specs.declared.Halfwords.TheVariants.{One, Two}
use Rattle.processor_encode_laws.specs.RoundTrip.{DecodesTo, Legal}

-- of a row d that the halfwords decode to: a legal instruction is encoded as the cleared halfwords, and they decode to d
pub record Facts (f s : ℕ) (d : Option Instruction) : Type 0 where
  pub legal : (i : Instruction) → d ≡ Some i → Legal i → encode_of i ≡ cleared_of f s
  pub decodes : decode_of (cleared_first f s) (cleared_second f s) ≡ d

decodes-either : (i : Instruction) (t : Bool) (a b : ℕ) → DecodesTo i (pick t (Ok (Two a b)) (Ok (One a))) → decode_of a b ≡ Some i
decodes-either i true a b h = h.3
decodes-either i false a b h = h.2 b

same-instruction : (i j : Instruction) → Some j ≡ Some i → j ≡ i
same-instruction i j e = cc

pub legal-row : (f s : ℕ) (j : Instruction) → DecodesTo j (encode_of j) → encode_of j ≡ cleared_of f s → Facts f s (Some j)
unfolding cleared_of
legal-row f s j h e =
    record {
      legal = λ i q l. rw (sym (same-instruction i j q)) e;
      decodes = decodes-either j (two_of f) (cleared_first f s) (cleared_second f s) (rw e at h);
    }

module _ (f s : ℕ) (first : cleared_first f s ≡ f) (second : cleared_second f s ≡ s) where
  not-modelled : (i : Instruction) → None ≡ Some i → ⊥
  not-modelled i e = cc

  pub absent-row : decode_of f s ≡ None → Facts f s None
  absent-row h = record { legal = λ i e l. absurd (not-modelled i e); decodes = rw (first, second) h }

  pub illegal-row : decode_of f s ≡ Some Illegal → Facts f s (Some Illegal)
  illegal-row h = record { legal = λ i e l. absurd (l (sym (same-instruction i Illegal e))); decodes = rw (first, second) h }

-- fields in range are put in their places
pub encoded-in : (x : Fields) → in_range x ≡ true → encoded_of x ≡ halfwords_of (format_of x.operation) x
unfolding encoded_of
encoded-in x h = rw h
