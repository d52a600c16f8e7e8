-- The laws of specs/Truncation, proved.
use Rattle.std.proofs.Common.{◌≡◌, ℕ, ◌+◌, ◌*◌, ◌<◌, ◌≤◌, ℤ, pos, ◌+ℤ◌, neg_ℤ, ◌≤ℤ◌, sym, ap, ◌∙◌, arith}
use lib.IntN.{neg_ℤ-+ℤ}
use Rattle.word.proofs.Integers.{is_pos, is-minus, is_le, le_is}
use Rattle.word.proofs.Signs.{size-negative, times-negative, negative-times, negative-negative}
use Rattle.processor_arithmetic.specs.Truncation.{Truncated}

pos-below : (m r : ℕ) → r ≤ m → pos m ≤ℤ pos 0 → pos r ≤ℤ pos 0
pos-below m r h k = is_le (is_pos r) (is_pos 0) (omega (arith, le_is (is_pos m) (is_pos 0) k))

negative-above : (m r : ℕ) → r ≤ m → pos 0 ≤ℤ neg_ℤ (pos m) → pos 0 ≤ℤ neg_ℤ (pos r)
negative-above m r h k =
    is_le (is_pos 0) (is-minus (is_pos r)) (omega (arith, le_is (is_pos 0) (is-minus (is_pos m)) k))

-- the four cases of the signs, from the division of the magnitudes
module _ (m d q r : ℕ) (e : m ≡ q * d + r) (h : r < d) where
  below : r ≤ m
  below = omega arith

  pub both_positive : Truncated (pos m) (pos d) (pos q) (pos r)
  both_positive = record {
    equation = ap pos e;
    small = h;
    positive = λ _. is_le (is_pos 0) (is_pos r) (omega arith);
    negative = pos-below m r below;
  }

  pub divisor-negative : Truncated (pos m) (neg_ℤ (pos d)) (neg_ℤ (pos q)) (pos r)
  divisor-negative = record {
    equation = ap pos e ∙ ap (λ (z : ℤ). z +ℤ pos r) (sym (negative-negative q d));
    small = rw (size-negative d) h;
    positive = λ _. is_le (is_pos 0) (is_pos r) (omega arith);
    negative = pos-below m r below;
  }

  pub dividend-negative : Truncated (neg_ℤ (pos m)) (pos d) (neg_ℤ (pos q)) (neg_ℤ (pos r))
  dividend-negative = record {
    equation = ap (λ (n : ℕ). neg_ℤ (pos n)) e ∙ neg_ℤ-+ℤ (pos (q * d)) (pos r) ∙ ap (λ (z : ℤ). z +ℤ neg_ℤ (pos r)) (sym (negative-times q d));
    small = rw (size-negative r) h;
    positive = negative-above m r below;
    negative = λ _. is_le (is-minus (is_pos r)) (is_pos 0) (omega arith);
  }

  pub both_negative : Truncated (neg_ℤ (pos m)) (neg_ℤ (pos d)) (pos q) (neg_ℤ (pos r))
  both_negative = record {
    equation = ap (λ (n : ℕ). neg_ℤ (pos n)) e ∙ neg_ℤ-+ℤ (pos (q * d)) (pos r) ∙ ap (λ (z : ℤ). z +ℤ neg_ℤ (pos r)) (sym (times-negative q d));
    small = rw (size-negative r, size-negative d) h;
    positive = negative-above m r below;
    negative = λ _. is_le (is-minus (is_pos r)) (is_pos 0) (omega arith);
  }
