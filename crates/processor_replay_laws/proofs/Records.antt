-- The first word in which two records differ: below 4 they agree before it and differ in it, else they are equal. Assumes nothing.
use Prim.Native.Nat.{ℕ, ◌<◌, ◌≤◌}
use mathlib.Core.Path.{◌≡◌}
use mathlib.Core.Logic.{◌⊎◌, inl, inr, ⊎_elim}
use native.Mathlib.Decide.{ℕ_discrete}
use native.Mathlib.Omega.{arith}
use borrow.Author.Tests.{eq-eqb, ne_eqb}
use Rattle.processor_replay.specs.Replay.{Record, record_with, first_difference_of}
use Rattle.processor_replay_laws.specs.Ending.{word_of, Differs}

module _ (a b : Record) where
  -- words that are equal, from the first on
  first-equal : a.before ≡ b.before → (w : ℕ) → w < 1 → word_of w a ≡ word_of w b
  first-equal p w h =
      let z : w ≡ 0 = omega arith in
      rw z p

  second-equal : a.before ≡ b.before → a.after ≡ b.after → (w : ℕ) → w < 2 → word_of w a ≡ word_of w b
  second-equal p q w h =
      elim (ℕ_discrete w 1) [
        | yes z ↦ rw z q
        | no ne ↦ first-equal p w (omega arith)
      ]

  third-equal : a.before ≡ b.before → a.after ≡ b.after → a.psw ≡ b.psw → (w : ℕ) → w < 3 → word_of w a ≡ word_of w b
  third-equal p q r w h =
      elim (ℕ_discrete w 2) [
        | yes z ↦ rw z r
        | no ne ↦ second-equal p q w (omega arith)
      ]

  all-equal : a.before ≡ b.before → a.after ≡ b.after → a.psw ≡ b.psw → a.sum ≡ b.sum → a ≡ b
  all-equal p q r s =
      let e : record_with a.before a.after a.psw a.sum ≡ record_with b.before b.after b.psw b.sum = rw (p, q, r, s) in
      e

  -- by the four tests
  compared : (word : ℕ) → word ≡ first_difference_of a b → Differs word a b ⊎ ((word ≡ 4) × (a ≡ b))
  unfolding first_difference_of
  compared word e =
      elim (ℕ_discrete a.before b.before) [
        | no p ↦
            let z : word ≡ 0 = simp (ne_eqb a.before b.before p) at e in
            inl (rw z (record { which = omega arith; equal = λ w l. absurd (omega arith); different = p }))
        | yes p ↦ elim (ℕ_discrete a.after b.after) [
          | no q ↦
              let z : word ≡ 1 = simp (eq-eqb a.before b.before p, ne_eqb a.after b.after q) at e in
              inl (rw z (record { which = omega arith; equal = first-equal p; different = q }))
          | yes q ↦ elim (ℕ_discrete a.psw b.psw) [
            | no r ↦
                let z : word ≡ 2 = simp (eq-eqb a.before b.before p, eq-eqb a.after b.after q, ne_eqb a.psw b.psw r) at e in
                inl (rw z (record { which = omega arith; equal = second-equal p q; different = r }))
            | yes r ↦ elim (ℕ_discrete a.sum b.sum) [
              | no s ↦
                  let z : word ≡ 3 = simp (
                    eq-eqb a.before b.before p,
                    eq-eqb a.after b.after q,
                    eq-eqb a.psw b.psw r,
                    ne_eqb a.sum b.sum s,
                  ) at e in
                  inl (rw z (record { which = omega arith; equal = third-equal p q r; different = s }))
              | yes s ↦
                  let z : word ≡ 4 = simp (
                    eq-eqb a.before b.before p,
                    eq-eqb a.after b.after q,
                    eq-eqb a.psw b.psw r,
                    eq-eqb a.sum b.sum s,
                  ) at e in
                  inr (z, all-equal p q r s)
            ]
          ]
        ]
      ]

  pub first_word : (word : ℕ) → word ≡ first_difference_of a b → word < 4 → Differs word a b
  first_word word e h = ⊎_elim (λ d. d) (λ f. absurd (omega (arith, f.0))) (compared word e)

  pub no_word : (word : ℕ) → word ≡ first_difference_of a b → 4 ≤ word → a ≡ b
  no_word word e h = ⊎_elim (λ d. absurd (omega (arith, d.which))) (λ f. f.1) (compared word e)
