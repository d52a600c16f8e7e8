-- The bit that a shift takes out, and the shift to the right that rounds down: what the laws of Shifted rest on.
use Rattle.std.proofs.Common.{◌≡◌, ℕ, suc, ◌+◌, ◌-◌, ◌*◌, ◌/◌, ◌%◌, ◌^◌, ◌<◌, ◌≤◌, pos, negsuc, sym, ap, ◌∙◌, lt_of_le_of_lt, arith, pow_pos, pow-add, le-ltb, lt-ltb, eq-eqb, ne_eqb}
use native.Mathlib.Decide.{dec_lt, ℕ_discrete}
use native.Mathlib.Nat.{mul-div-mul_left, mul-div-mul_right}
use lib.Signed.{mag, mag_shr, shr_z}
use lib.Pow.{shr_le}
use Rattle.word.specs.Bit.{bit_at}
use Rattle.word.specs.Extend.{signed_of}
use Rattle.word.specs.Floors.{mod_z}
use Rattle.word.proofs.Integers.{is-equal, is-moved, is-negsuc}
use Rattle.word.proofs.Floors.{is-mod}
use Rattle.word.proofs.Readings.{reading-low, reading-high}
use Rattle.processor_arithmetic.specs.Shift.{left_out_of, right_out_of, arithmetic_right_of}
use Rattle.processor_arithmetic.specs.Integer.{signed}
use Rattle.processor_arithmetic.proofs.Reading.{plain-reading}
use Rattle.processor_arithmetic.proofs.Complement.{signed-complement}

-- a times 2 ^ n, from bit 32 on, is a from bit 32 - n on
left-bit-at : (a n : ℕ) → n ≤ 32 → a * 2 ^ n / 2 ^ 32 % 2 ≡ bit_at (32 - n) a
left-bit-at a n h =
    let s : 32 - n + n ≡ 32 = omega arith in
    let p : 2 ^ 32 ≡ 2 ^ (32 - n) * 2 ^ n = ap (λ (k : ℕ). 2 ^ k) (sym s) ∙ pow-add 2 (32 - n) n in
    ap (λ (x : ℕ). x % 2) (ap (λ (x : ℕ). a * 2 ^ n / x) p ∙ mul-div-mul_right a (2 ^ (32 - n)) (pow_pos n))

-- 2 a, from bit n + 1 on, is a from bit n on
right-bit-at : (a n : ℕ) → 2 * a / 2 ^ (1 + n) % 2 ≡ bit_at n a
right-bit-at a n =
    let p : 2 ^ (1 + n) ≡ 2 * 2 ^ n = pow-add 2 1 n in
    ap (λ (x : ℕ). x % 2) (ap (λ (x : ℕ). 2 * a / x) p ∙ mul-div-mul_left a (2 ^ n) (omega arith))

-- the last bit out, where something moves and where nothing does
pub left-some : (a n : ℕ) → 0 < n → left_out_of a n ≡ bit_at (32 - n) a
unfolding left_out_of
left-some a n h = simp (ne_eqb n 0 (λ e. omega arith))

pub left-zero : (a n : ℕ) → n ≡ 0 → left_out_of a n ≡ 0
unfolding left_out_of
left-zero a n e = simp (eq-eqb n 0 e)

pub right-some : (a n : ℕ) → 0 < n → right_out_of a n ≡ bit_at (n - 1) a
unfolding right_out_of
right-some a n h = simp (ne_eqb n 0 (λ e. omega arith))

pub right_zero : (a n : ℕ) → n ≡ 0 → right_out_of a n ≡ 0
unfolding right_out_of
right_zero a n e = simp (eq-eqb n 0 e)

-- the same as the code has it, without a test of the amount
pub left_out : (a n : ℕ) → a < 2 ^ 32 → n ≤ 32 → left_out_of a n ≡ a * 2 ^ n / 2 ^ 32 % 2
left_out a n ha h =
    elim (ℕ_discrete n 0) [
      | yes e ↦ left-zero a n e ∙ sym (left-bit-at a n h ∙ ap (λ (k : ℕ). bit_at (32 - k) a) e ∙ omega arith)
      | no e ↦ left-some a n (omega arith) ∙ sym (left-bit-at a n h)
    ]

pub right-out : (a n : ℕ) → right_out_of a n ≡ 2 * a / 2 ^ n % 2
right-out a n =
    elim (ℕ_discrete n 0) [
      | yes e ↦ right_zero a n e ∙ sym (ap (λ (k : ℕ). 2 * a / 2 ^ k % 2) e ∙ omega arith)
      | no e ↦
          let s : 1 + (n - 1) ≡ n = omega arith in
          right-some a n (omega arith) ∙ sym (right-bit-at a (n - 1)) ∙ ap (λ (k : ℕ). 2 * a / 2 ^ k % 2) s
    ]

pub left-bit : (a n : ℕ) → left_out_of a n < 2
left-bit a n =
    elim (ℕ_discrete n 0) [
      | yes e ↦ rw (left-zero a n e) (omega arith)
      | no e ↦ rw (left-some a n (omega arith)) (omega arith)
    ]

pub right-bit : (a n : ℕ) → right_out_of a n < 2
right-bit a n = rw (right-out a n) (omega arith)

pub sar_low : (a n : ℕ) → a < 2 ^ 31 → arithmetic_right_of a n ≡ a / 2 ^ n
unfolding arithmetic_right_of signed_of
sar_low a n h = simp (lt-ltb a (2 ^ 31) h) (omega (arith, shr_le a n))

pub sar_high : (a n : ℕ) → a < 2 ^ 32 → 2 ^ 31 ≤ a → arithmetic_right_of a n ≡ 2 ^ 32 - 1 - (2 ^ 32 - 1 - a) / 2 ^ n
unfolding arithmetic_right_of signed_of
sar_high a n ha g =
    let e : 2 ^ 32 - suc a ≡ 2 ^ 32 - 1 - a = omega arith in
    simp (le-ltb a (2 ^ 31) g, lt-ltb a (2 ^ 32) ha) (rw e (omega (arith, shr_le (2 ^ 32 - 1 - a) n)))

pub sar-word : (a n : ℕ) → a < 2 ^ 32 → arithmetic_right_of a n < 2 ^ 32
sar-word a n ha =
    elim (dec_lt a (2 ^ 31)) [
      | yes l ↦ rw (sar_low a n l) (omega (arith, shr_le a n))
      | no l ↦
          let g : 2 ^ 31 ≤ a = omega arith in
          rw (sar_high a n ha g) (omega arith)
    ]

-- the shift is the floor, which is a signed word as its dividend is
magnitude-within : (a : ℕ) → a < 2 ^ 32 → mag (signed a) < 2 ^ 31
magnitude-within a h =
    elim (dec_lt a (2 ^ 31)) [
      | yes l ↦ rw (plain-reading (2 ^ 31) a l) l
      | no l ↦
          let e : signed a ≡ negsuc (2 ^ 32 - suc a) =
          is-equal (reading-high (2 ^ 31) a (omega arith)) (is-negsuc (2 ^ 32 - suc a)) (omega arith) in
          rw e (omega arith)
    ]

pub sar-floor : (a n : ℕ) → a < 2 ^ 32 → signed (arithmetic_right_of a n) ≡ shr_z (signed a) (2 ^ n)
unfolding arithmetic_right_of
sar-floor a n h =
    signed-complement (2 ^ 31) (shr_z (signed a) (2 ^ n)) (lt_of_le_of_lt (mag_shr (signed a) (2 ^ n)) (magnitude-within a h))

-- the bits that it takes out are the remainder
pub low-rest : (a n : ℕ) → n ≤ 32 → pos (a % 2 ^ n) ≡ mod_z (signed a) (2 ^ n)
low-rest a n h =
    elim (dec_lt a (2 ^ 31)) [
      | yes l ↦ is-mod (2 ^ n) 0 (pow_pos n) (is-moved (reading-low (2 ^ 31) a l) (omega arith))
      | no l ↦
          let s : 32 - n + n ≡ 32 = omega arith in
          let p : 2 ^ 32 ≡ 2 ^ (32 - n) * 2 ^ n = ap (λ (k : ℕ). 2 ^ k) (sym s) ∙ pow-add 2 (32 - n) n in
          is-mod (2 ^ n) (2 ^ (32 - n)) (pow_pos n) (is-moved (reading-high (2 ^ 31) a (omega arith)) (omega arith))
    ]
