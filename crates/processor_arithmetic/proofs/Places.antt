-- The laws of specs/Places, proved.
use Rattle.std.proofs.Common.{◌≡◌, ℕ, ◌+◌, ◌-◌, ◌*◌, ◌/◌, ◌%◌, ◌^◌, ◌<◌, ◌≤◌, eqb, ap, ◌∙◌, mul-le-mul_right, mul_comm, add-mul, one-mul, arith}
use native.Mathlib.Nat.{mul-sub}
use lib.Pow.{split}
use Rattle.word.specs.Bit.{bit_at, without_bit, with_bit}
use Rattle.processor_arithmetic.specs.Flag.{zero_of, flags_of, keep_carry_of}
use Rattle.processor_arithmetic.proofs.Bits.{bit-small, same_above, above-below, other-bits}
use Rattle.processor_arithmetic.specs.Places.{FlagsPlaced, KeepCarryPlaced, ClearFlag, ClearFlagOthers, SetFlag, SetFlagOthers}

pub flags-placed : FlagsPlaced
unfolding flags_of
flags-placed psw cy ov v hc ho hv =
    let hz : zero_of v < 2 = bit-small (eqb v 0) in
    record {
      at_z = omega arith;
      at_s = omega arith;
      at_ov = omega arith;
      at_cy = omega arith;
      others = λ k h. same_above _ psw 4 k (omega arith) h;
    }

pub keep-carry-placed : KeepCarryPlaced
unfolding keep_carry_of
keep-carry-placed psw ov v ho hv =
    let hz : zero_of v < 2 = bit-small (eqb v 0) in
    record {
      at_z = omega arith;
      at_s = omega arith;
      at_ov = omega arith;
      at_cy = omega arith;
      others = λ k h. same_above _ psw 4 k (omega arith) h;
    }

cleared : (k psw : ℕ) → without_bit k psw ≡ (psw / 2 ^ k - psw / 2 ^ k % 2) * 2 ^ k + psw % 2 ^ k
cleared k psw =
    let q = psw / 2 ^ k in
    let b = psw / 2 ^ k % 2 in
    let le : psw / 2 ^ k % 2 * 2 ^ k ≤ psw / 2 ^ k * 2 ^ k = mul-le-mul_right (2 ^ k) (omega arith) in
    let e : (psw / 2 ^ k - psw / 2 ^ k % 2) * 2 ^ k ≡ 2 ^ k * (psw / 2 ^ k) - 2 ^ k * (psw / 2 ^ k % 2) =
    mul_comm (q - b) (2 ^ k) ∙ mul-sub (2 ^ k) q b
    in
    omega (arith, split psw k, mul_comm (2 ^ k) q, mul_comm (2 ^ k) b)

put : (k psw : ℕ) → with_bit k psw ≡ (psw / 2 ^ k - psw / 2 ^ k % 2 + 1) * 2 ^ k + psw % 2 ^ k
put k psw =
    let m = psw / 2 ^ k - psw / 2 ^ k % 2 in
    omega (arith, cleared k psw, add-mul m 1 (2 ^ k), one-mul (2 ^ k))

pub clear-flag : ClearFlag
clear-flag k psw =
    let m = psw / 2 ^ k - psw / 2 ^ k % 2 in
    ap (bit_at k) (cleared k psw) ∙ ap (λ (n : ℕ). n % 2) (above-below k m psw).0 ∙ omega arith

pub clear-flag-others : ClearFlagOthers
clear-flag-others j k psw d =
    let m = psw / 2 ^ k - psw / 2 ^ k % 2 in
    ap (bit_at j) (cleared k psw) ∙ other-bits k m psw (omega arith) j d

pub set-flag : SetFlag
set-flag k psw =
    let m = psw / 2 ^ k - psw / 2 ^ k % 2 + 1 in
    ap (bit_at k) (put k psw) ∙ ap (λ (n : ℕ). n % 2) (above-below k m psw).0 ∙ omega arith

pub set-flag-others : SetFlagOthers
set-flag-others j k psw d =
    let m = psw / 2 ^ k - psw / 2 ^ k % 2 + 1 in
    ap (bit_at j) (put k psw) ∙ other-bits k m psw (omega arith) j d
