-- The signed reading of a number, at any width, as a difference of natural numbers. Assumes nothing.
use Prim.Native.Nat.{ℕ, ◌+◌, ◌-◌, ◌*◌, ◌%◌, ◌<◌, ◌≤◌}
use native.Mathlib.Nat as NatL
use native.Mathlib.Decide.{dec_lt}
use native.Mathlib.Omega.{arith}
use mathlib.Core.Path.{◌≡◌, ◌∙◌}
use borrow.Author.Tests.{lt-ltb, le-ltb}
use Rattle.word.specs.Extend.{signed_of}
use Rattle.word.proofs.Integers.{Is, is_pos, is-difference, is-moved}

-- below half the range a number is itself, and from there on the whole range less
pub reading-low : (half x : ℕ) → x < half → Is (signed_of half x) x 0
unfolding signed_of
reading-low half x h = simp (lt-ltb x half h) (is_pos x)

pub reading-high : (half x : ℕ) → half ≤ x → Is (signed_of half x) x (2 * half)
unfolding signed_of
reading-high half x h =
    simp (le-ltb x half h) (is-moved (is-difference (is_pos x) (is_pos (2 * half))) (omega arith))

-- plus half the range it is a natural number
pub reading-biased : (half x : ℕ) → x < 2 * half → Is (signed_of half x) ((x + half) % (2 * half)) half
reading-biased half x h =
    elim (dec_lt x half) [
      | yes l ↦
          let value : (x + half) % (2 * half) ≡ x + half = NatL.mod-eq_of_lt (omega arith) in
          is-moved (reading-low half x l) (omega arith)
      | no l ↦
          let g : half ≤ x = omega arith in
          let small : x + half - 2 * half < 2 * half = omega arith in
          let value : (x + half) % (2 * half) ≡ x + half - 2 * half = NatL.mod-eq-sub-mod (omega arith) ∙ NatL.mod-eq_of_lt small in
          is-moved (reading-high half x g) (omega arith)
    ]
