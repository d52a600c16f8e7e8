-- The first word in which a record of a trace differs, word by word. Assumes nothing.
use Rattle.std.proofs.Common.{◌≡◌, ℕ, ◌+◌, ◌*◌, List, sym, ◌∙◌, eq-eqb, ne_eqb}
use Rattle.word.specs.LittleEndian.{word_at}
use Rattle.processor_replay.specs.Replay.{record_with, record_at, first_difference_of}

module _ (trace : List ℕ) (k before after psw sum : ℕ) where
  -- what the code answers where these words were compared
  abbrev pub Answers : ℕ → Type 0
  Answers r = r ≡ first_difference_of (record_at trace k) (record_with before after psw sum)

  module _ (a : ℕ) (p : a ≡ word_at trace (16 * k)) where
    pub first-differs : (a ≡ before → ⊥) → Answers 0
    unfolding first_difference_of record_at
    first-differs h = simp (ne_eqb (word_at trace (16 * k)) before (λ e. h (p ∙ e)))

    module _ (e : a ≡ before) (b : ℕ) (q : b ≡ word_at trace (16 * k + 4)) where
      pub second-differs : (b ≡ after → ⊥) → Answers 1
      unfolding first_difference_of record_at
      second-differs h =
          simp (eq-eqb (word_at trace (16 * k)) before (sym p ∙ e), ne_eqb (word_at trace (16 * k + 4)) after (λ f. h (q ∙ f)))

      module _ (f : b ≡ after) (d : ℕ) (r : d ≡ word_at trace (16 * k + 8)) where
        pub third-differs : (d ≡ psw → ⊥) → Answers 2
        unfolding first_difference_of record_at
        third-differs h =
            simp (
              eq-eqb (word_at trace (16 * k)) before (sym p ∙ e),
              eq-eqb (word_at trace (16 * k + 4)) after (sym q ∙ f),
              ne_eqb (word_at trace (16 * k + 8)) psw (λ g. h (r ∙ g)),
            )

        module _ (g : d ≡ psw) (s : ℕ) (t : s ≡ word_at trace (16 * k + 12)) where
          pub fourth-differs : (s ≡ sum → ⊥) → Answers 3
          unfolding first_difference_of record_at
          fourth-differs h =
              simp (
                eq-eqb (word_at trace (16 * k)) before (sym p ∙ e),
                eq-eqb (word_at trace (16 * k + 4)) after (sym q ∙ f),
                eq-eqb (word_at trace (16 * k + 8)) psw (sym r ∙ g),
                ne_eqb (word_at trace (16 * k + 12)) sum (λ i. h (t ∙ i)),
              )

          pub none-differs : s ≡ sum → Answers 4
          unfolding first_difference_of record_at
          none-differs i =
              simp (
                eq-eqb (word_at trace (16 * k)) before (sym p ∙ e),
                eq-eqb (word_at trace (16 * k + 4)) after (sym q ∙ f),
                eq-eqb (word_at trace (16 * k + 8)) psw (sym r ∙ g),
                eq-eqb (word_at trace (16 * k + 12)) sum (sym t ∙ i),
              )
