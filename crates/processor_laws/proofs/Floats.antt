-- What the floating and Nintendo instructions give is a word: each number fits the format, and so has a word.
use Prim.Native.Nat.{ℕ, ◌^◌, ◌<◌, ◌≤◌}
use mathlib.Core.Path.{◌≡◌, refl}
use mathlib.Core.Bool.{Bool, true, false, not, ◌&&◌, ◌||◌}
use native.Mathlib.Decide.{dec_lt}
use native.Mathlib.Omega.{arith}
use borrow.Author.Tests.{lt-ltb, le-ltb, leb-false}
use lib.Dec.{T}
use lib.IntN.{pos}
use lib.Ieee.{Float, nan, inf, fin, binary32, fits, to_bits}
use lib.Ieee.Bits.{to_bits-lt}
use lib.Ieee.Fits.{add-fits, sub-fits, mul-fits, div-fits, of_int-fits}
use Rattle.word.proofs.Choices.{pick-each}
use Rattle.word.specs.Choose.{pick}
use Rattle.processor_arithmetic.specs.Sign.{negative_of}
use Rattle.processor_arithmetic.specs.Integer.{signed, outside}
use Rattle.processor_decode.specs.declared.sub_opcode.FloatingOperation.{FloatingOperation}
use Rattle.processor_decode.specs.declared.sub_opcode.NintendoOperation.{NintendoOperation}
use Rattle.processor_float.specs.Operand.{reserved_of, is_zero, float_of, signed_by}
use Rattle.processor_float.specs.Arithmetic.{computed_of, is_divide, vanishes_of, is_tiny, settled_of, float_result_of, outcome_of}
use Rattle.processor_float.specs.Conversion.{nearest_size_of, truncated_size_of, signed_word_of, converted_of, nearest_of, truncated_of}
use Rattle.processor_float.specs.Nintendo.{xb_of, xh_of, rev_of, mpyhw_of}
use Rattle.processor_float.proofs.Reversal.{reversed-small}
use Rattle.processor_float.specs.declared.Operation.{Operation}
use Rattle.processor_float.specs.declared.FloatOutcome.{FloatOutcome}
use Rattle.processor_float.specs.declared.FloatOutcome.TheVariants.{Number, Word, Reserved, Invalid, ZeroDivide, Overflow}
use Rattle.processor_execute.specs.Floating.{floating_of, nintendo_of}

-- an outcome whose result is a word
abbrev pub Kept : FloatOutcome → Type 0
Kept (Number v underflowed) = T (fits binary32 v)
Kept (Word w) = w < 2 ^ 32
Kept Reserved = Unit {0}
Kept Invalid = Unit {0}
Kept ZeroDivide = Unit {0}
Kept Overflow = Unit {0}

pub number_word : (v : Float) → T (fits binary32 v) → to_bits binary32 v < 2 ^ 32
number_word v h = to_bits-lt binary32 v h

zero-fits : (s : Bool) → T (fits binary32 (fin s 0 (pos 0)))
unfolding fits
zero-fits s = tt

computed_fits : (op : Operation) (a b : Float) → T (fits binary32 (computed_of op a b))
computed_fits Operation.Add a b = add-fits binary32 a b
computed_fits Operation.Subtract a b = sub-fits binary32 a b
computed_fits Operation.Multiply a b = mul-fits binary32 a b
computed_fits Operation.Divide a b = div-fits binary32 a b

settled-kept : (exact : Bool) (v : Float) → T (fits binary32 v) → Kept (settled_of exact v)
unfolding settled_of
settled-kept exact nan h = h
settled-kept exact (inf s) h = tt
settled-kept exact (fin s m e) h =
    pick-each Kept (is_tiny m e) (Number (fin s 0 (pos 0)) (not exact)) (Number (fin s m e) false) (zero-fits s) h

pub outcome-kept : (op : Operation) (x y : ℕ) → Kept (outcome_of op x y)
unfolding outcome_of
outcome-kept op x y =
    pick-each Kept (reserved_of x || reserved_of y) Reserved (pick (is_divide op && is_zero y) (pick (is_zero x) Invalid ZeroDivide) (float_result_of op x y)) tt
    (pick-each Kept (is_divide op && is_zero y) (pick (is_zero x) Invalid ZeroDivide) (float_result_of op x y)
    (pick-each Kept (is_zero x) Invalid ZeroDivide tt tt)
    (settled-kept (vanishes_of op x y (float_of x) (float_of y)) (computed_of op (float_of x) (float_of y)) (computed_fits op (float_of x) (float_of y))))

-- a whole number within the signed word
inside-word : (w n : ℕ) → outside (signed_by w n) ≡ false → signed_word_of w n < 2 ^ 32
unfolding signed_word_of negative_of
inside-word w n =
    elim (dec_lt w (2 ^ 31)) [
      | yes h ↦
          rw (lt-ltb w (2 ^ 31) h)
          (λ (e : outside (pos n) ≡ false). omega (arith, leb-false (2 ^ 31) n e))
      | no h ↦
          let g : 2 ^ 31 ≤ w = omega arith in
          rw (le-ltb w (2 ^ 31) g) (λ e. omega arith)
    ]

-- what holds of the two traps and of every word holds of a conversion
pub converted-each : (P : FloatOutcome → Type 0) → P Reserved → P Invalid → ((v : ℕ) → v < 2 ^ 32 → P (Word v)) → (w n : ℕ) → P (converted_of w n)
converted-each P reserved invalid word w n =
    pick-each P (reserved_of w) Reserved (pick (outside (signed_by w n)) Invalid (Word (signed_word_of w n))) reserved
    (go (outside (signed_by w n)) refl)
  where
    go : (b : Bool) → outside (signed_by w n) ≡ b → P (pick b Invalid (Word (signed_word_of w n)))
    go true e = invalid
    go false e = word (signed_word_of w n) (inside-word w n e)

converted-kept : (w n : ℕ) → Kept (converted_of w n)
converted-kept w n = converted-each Kept tt tt (λ v h. h) w n

pub floating-kept : (op : FloatingOperation) (a b : ℕ) → Kept (floating_of op a b)
unfolding nearest_of truncated_of
floating-kept FloatingOperation.CvtWs a b = of_int-fits binary32 (signed b)
floating-kept FloatingOperation.CvtSw a b = converted-kept b (nearest_size_of b)
floating-kept FloatingOperation.Addf a b = outcome-kept Operation.Add a b
floating-kept FloatingOperation.Subf a b = outcome-kept Operation.Subtract a b
floating-kept FloatingOperation.Mulf a b = outcome-kept Operation.Multiply a b
floating-kept FloatingOperation.Divf a b = outcome-kept Operation.Divide a b
floating-kept FloatingOperation.TrncSw a b = converted-kept b (truncated_size_of b)

pub nintendo-word : (op : NintendoOperation) (a b : ℕ) → a < 2 ^ 32 → nintendo_of op a b < 2 ^ 32
unfolding xb_of xh_of rev_of mpyhw_of
nintendo-word NintendoOperation.Xb a b h = omega arith
nintendo-word NintendoOperation.Xh a b h = omega arith
nintendo-word NintendoOperation.Rev a b h = reversed-small 32 b
nintendo-word NintendoOperation.Mpyhw a b h = omega arith
