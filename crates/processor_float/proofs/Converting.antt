-- The three answers of a conversion to a whole number, by its tests. Assumes nothing.
use Rattle.std.proofs.Common.{◌≡◌, ℕ, ◌%◌, ◌^◌, ◌≤◌, Bool, true, false, ◌||◌, eqb, ltb, sym, ◌∙◌, ltb-false}
use Rattle.word.specs.Choose.{pick}
use Rattle.word.proofs.Choices.{or-neither, pick_true, pick-false}
use Rattle.processor_arithmetic.specs.Integer.{outside}
use Rattle.processor_float.specs.Operand.{reserved_of, signed_by}
use Rattle.processor_float.specs.Conversion.{nearest_size_of, truncated_size_of, outside_of, signed_word_of, converted_of}
use Rattle.processor_float.specs.declared.FloatOutcome.{FloatOutcome}
use Rattle.processor_float.specs.declared.FloatOutcome.TheVariants.{Word, Reserved, Invalid}
use Rattle.processor_float.proofs.Sizing.{Reaches, outside-same}

-- within the signed word, a size is 2 ^ 31 at most
pub within : (w : ℕ) (o : Bool) → o ≡ outside_of w → o ≡ false → w % 2 ^ 31 ≤ 0x4F000000
unfolding outside_of
within w o p e = ltb-false 0x4F000000 (w % 2 ^ 31) (or-neither (ltb 0x4F000000 (w % 2 ^ 31)) (eqb w 0x4F000000) (sym p ∙ e)).0

module _ (w n : ℕ) (h : Reaches w n) (r : Bool) (p : r ≡ reserved_of w) where
  abbrev number_of : FloatOutcome
  number_of = pick (outside (signed_by w n)) Invalid (Word (signed_word_of w n))

  pub reserved-converted : r ≡ true → Reserved ≡ converted_of w n
  reserved-converted e = pick_true (reserved_of w) Reserved number_of (sym p ∙ e)

  number : r ≡ false → number_of ≡ converted_of w n
  number e = pick-false (reserved_of w) Reserved number_of (sym p ∙ e)

  module _ (o : Bool) (q : o ≡ outside_of w) where
    pub invalid-converted : r ≡ false → o ≡ true → Invalid ≡ converted_of w n
    invalid-converted e f =
        pick_true (outside (signed_by w n)) Invalid (Word (signed_word_of w n)) (outside-same w n h ∙ sym q ∙ f) ∙ number e

    pub word-converted : r ≡ false → o ≡ false → Word (signed_word_of w n) ≡ converted_of w n
    word-converted e f =
        pick-false (outside (signed_by w n)) Invalid (Word (signed_word_of w n)) (outside-same w n h ∙ sym q ∙ f) ∙ number e
