-- A whole number as a sign and a size: sums, products and opposites by the signs. Assumes nothing.
use Prim.Native.Nat.{ℕ, ◌+◌, ◌-◌, ◌*◌, ◌<◌, ◌≤◌, ◌^◌}
use mathlib.Core.Path.{◌≡◌, refl, sym}
use mathlib.Core.Bool.{Bool, true, false, not, ◌&&◌}
use native.Mathlib.Decide.{dec_lt}
use native.Mathlib.Omega.{arith}
use borrow.Author.Tests.{lt-ltb, le-ltb, lt-leb, le-leb}
use lib.Dec.{ltb, leb}
use lib.IntN.{pos, neg_ℤ, nat_abs, ◌+ℤ◌, ◌*ℤ◌, neg_ℤ-neg_ℤ, neg_ℤ-+ℤ}
use lib.Ieee.{unlike}
use Rattle.word.proofs.Integers.{is_pos, is_sum, is-minus, is-difference, is-equal}
use Rattle.word.proofs.Signs.{size-negative, times-negative, negative-times, negative-negative}
use Rattle.processor_float.specs.Operand.{signed_by}
use Rattle.processor_float_laws.specs.Exact.{signed_size}

pub size_of : (s : Bool) (n : ℕ) → nat_abs (signed_size s n) ≡ n
size_of true n = size-negative n
size_of false n = refl

pub opposite : (s : Bool) (n : ℕ) → neg_ℤ (signed_size s n) ≡ signed_size (not s) n
opposite true n = neg_ℤ-neg_ℤ (pos n)
opposite false n = refl

pub signed-value : (w n : ℕ) → signed_by w n ≡ signed_size (leb (2 ^ 31) w) n
signed-value w n =
    elim (dec_lt w (2 ^ 31)) [
      | yes h ↦ simp (lt-ltb w (2 ^ 31) h, lt-leb (2 ^ 31) w h)
      | no h ↦
          let g : 2 ^ 31 ≤ w = omega arith in
          simp (le-ltb w (2 ^ 31) g, le-leb (2 ^ 31) w g)
    ]

pub times : (s t : Bool) (a b : ℕ) → signed_size s a *ℤ signed_size t b ≡ signed_size (unlike s t) (a * b)
times true true a b = negative-negative a b
times true false a b = negative-times a b
times false true a b = times-negative a b
times false false a b = refl

-- a sum, as `sum` of lib.Ieee has it
pub sum_alike : (s : Bool) (a b : ℕ) → signed_size s a +ℤ signed_size s b ≡ signed_size s (a + b)
sum_alike true a b = sym (neg_ℤ-+ℤ (pos a) (pos b))
sum_alike false a b = refl

pub sum_less : (s : Bool) (a b : ℕ) → a < b → signed_size s a +ℤ signed_size (not s) b ≡ signed_size (not s) (b - a)
sum_less false a b h = is-equal (is-difference (is_pos a) (is_pos b)) (is-minus (is_pos (b - a))) (omega arith)
sum_less true a b h = is-equal (is_sum (is-minus (is_pos a)) (is_pos b)) (is_pos (b - a)) (omega arith)

pub sum_more : (s : Bool) (a b : ℕ) → b ≤ a → signed_size s a +ℤ signed_size (not s) b ≡ signed_size (s && ltb b a) (a - b)
sum_more false a b h = is-equal (is-difference (is_pos a) (is_pos b)) (is_pos (a - b)) (omega arith)
sum_more true a b h =
    let i = is_sum (is-minus (is_pos a)) (is_pos b) in
    elim (dec_lt b a) [
      | yes l ↦ simp (lt-ltb b a l) (is-equal i (is-minus (is_pos (a - b))) (omega arith))
      | no l ↦
          let g : a ≤ b = omega arith in
          simp (le-ltb b a g) (is-equal i (is_pos (a - b)) (omega arith))
    ]
