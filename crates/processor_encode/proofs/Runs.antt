-- Runs of operations that have one format, and the operations past the table.
use Prim.Native.Nat.{ℕ, zero, suc, ◌+◌, ◌≤◌, ◌<◌}
use mathlib.Core.Path.{◌≡◌, refl, subst}
use native.Mathlib.Decide.{dec_lt}
use native.Mathlib.Omega.{arith}
use borrow.Author.Tests.{le-ltb}
use lib.ListN.{get_or-eq_default}
use Rattle.processor_encode.specs.Format.{short_formats, long_formats, extended_formats, format_of}
use Rattle.processor_encode.specs.declared.format.Format as format
use Rattle.processor_encode.specs.declared.format.Format.TheVariants.{Bare, SystemRegister, SignedLong, Extended, Exchange, Unlisted}

-- `count` operations from `first` on have the format
abbrev Run : ℕ → ℕ → format.Format → Type 0
Run first zero f = Unit {0}
Run first (suc count) f = (format_of first ≡ f) × Run (suc first) count f

in-run : (first count n : ℕ) (f : format.Format) → Run first count f → first ≤ n → n < first + count → format_of n ≡ f
in-run first zero n f r a b = absurd (omega arith)
in-run first (suc count) n f r a b =
    elim (dec_lt first n) [
      | yes p ↦ in-run (suc first) count n f r.1 p (omega arith)
      | no p ↦
          let e : first ≡ n = omega arith in
          subst (λ (k : ℕ). format_of k ≡ f) e r.0
    ]

module _ (n : ℕ) where
  pub rows_25_26 : 25 ≤ n → n < 27 → format_of n ≡ Bare
  unfolding format_of short_formats
  rows_25_26 = in-run 25 2 n Bare (refl, (refl, tt))

  pub rows_28_29 : 28 ≤ n → n < 30 → format_of n ≡ SystemRegister
  unfolding format_of short_formats
  rows_28_29 = in-run 28 2 n SystemRegister (refl, (refl, tt))

  pub rows_51_53 : 51 ≤ n → n < 54 → format_of n ≡ SignedLong
  unfolding format_of long_formats
  rows_51_53 = in-run 51 3 n SignedLong (refl, (refl, (refl, tt)))

  pub rows_55_57 : 55 ≤ n → n < 58 → format_of n ≡ SignedLong
  unfolding format_of long_formats
  rows_55_57 = in-run 55 3 n SignedLong (refl, (refl, (refl, tt)))

  pub rows_59_61 : 59 ≤ n → n < 62 → format_of n ≡ SignedLong
  unfolding format_of long_formats
  rows_59_61 = in-run 59 3 n SignedLong (refl, (refl, (refl, tt)))

  pub rows_66_71 : 66 ≤ n → n < 72 → format_of n ≡ Extended
  unfolding format_of extended_formats
  rows_66_71 = in-run 66 6 n Extended (refl, (refl, (refl, (refl, (refl, (refl, tt))))))

  pub rows_72_73 : 72 ≤ n → n < 74 → format_of n ≡ Exchange
  unfolding format_of extended_formats
  rows_72_73 = in-run 72 2 n Exchange (refl, (refl, tt))

  pub rows_74_76 : 74 ≤ n → n < 77 → format_of n ≡ Extended
  unfolding format_of extended_formats
  rows_74_76 = in-run 74 3 n Extended (refl, (refl, (refl, tt)))

  pub past_rows : 77 ≤ n → format_of n ≡ Unlisted
  unfolding format_of extended_formats
  past_rows h =
      let a : 32 ≤ n = omega arith in
      let b : 64 ≤ n = omega arith in
      simp (le-ltb n 32 a, le-ltb n 64 b) (get_or-eq_default extended_formats Unlisted (omega arith))

pub ruleset runs = (rows_25_26, rows_28_29, rows_51_53, rows_55_57, rows_59_61, rows_66_71, rows_72_73, rows_74_76, past_rows)
