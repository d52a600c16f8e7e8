-- CY, Z and OV with S after CMP as comparisons: what the laws of Compared rest on.
use Rattle.std.proofs.Common.{◌≡◌, ℕ, ◌+◌, ◌-◌, ◌/◌, ◌%◌, ◌^◌, ◌<◌, Bool, true, false, eqb, ltb, ◌≢◌, sym, refl, ap, ◌∙◌, ap₂, arith, le-ltb, lt-ltb, eq-eqb, ne_eqb}
use native.Mathlib.Decide.{dec_lt}
use lib.Signed.{lt_z, le_z}
use Rattle.word.specs.Bit.{is_set}
use Rattle.word.specs.Choose.{pick}
use Rattle.word.proofs.Choices.{less-same, equal-same, less-or-equal}
use Rattle.word.proofs.Integers.{is-lt-test, is-le-test}
use Rattle.processor_arithmetic.specs.Flag.{bit_of, sign_of, z_flag, s_flag, ov_flag, cy_flag}
use Rattle.processor_arithmetic.specs.Sum.{difference_of, compare_of}
use Rattle.processor_arithmetic.proofs.Bias.{biased_of, outside_of}
use Rattle.processor_arithmetic.specs.Condition.{◌xor◌}
use Rattle.processor_arithmetic.specs.Integer.{signed}
use Rattle.processor_arithmetic.proofs.Reading.{signed-biased}
use Rattle.processor_arithmetic.proofs.Biased.{bias-small}
use Rattle.processor_arithmetic.proofs.Overflow.{difference-outside}
use Rattle.processor_arithmetic.proofs.Signed.{difference-placed}

bias-equal : (a b : ℕ) → a < 2 ^ 32 → b < 2 ^ 32 → eqb a b ≡ eqb (biased_of a + 2 ^ 31) (biased_of b + 2 ^ 31)
bias-equal a b ha hb =
    equal-same a b (biased_of a + 2 ^ 31) (biased_of b + 2 ^ 31) (ap (λ (n : ℕ). biased_of n + 2 ^ 31)) (λ e. unfold biased_of in omega arith)

pub bit-set : (t : Bool) → eqb (bit_of t) 1 ≡ t
bit-set true = refl
bit-set false = refl

-- the three tests after CMP
pub carry-set : (a b psw : ℕ) → a < 2 ^ 32 → b < 2 ^ 32 → is_set cy_flag (compare_of a b psw).psw ≡ ltb a b
unfolding compare_of
carry-set a b psw ha hb = ap (λ (n : ℕ). eqb n 1) (difference-placed a b psw ha hb).at_cy ∙ bit-set (ltb a b)

pub zero-set : (a b psw : ℕ) → a < 2 ^ 32 → b < 2 ^ 32 → is_set z_flag (compare_of a b psw).psw ≡ eqb a b
unfolding compare_of
zero-set a b psw ha hb =
    ap (λ (n : ℕ). eqb n 1) (difference-placed a b psw ha hb).at_z
    ∙ bit-set (eqb ((a + (2 ^ 32 - b)) % 2 ^ 32) 0)
    ∙ equal-same ((a + (2 ^ 32 - b)) % 2 ^ 32) 0 a b (λ e. omega arith) (λ e. omega arith)

pub outside-one : (t : ℕ) → (t + 2 ^ 31) / 2 ^ 32 ≢ 1 → outside_of t ≡ 1
unfolding outside_of
outside-one t n = simp (ne_eqb ((t + 2 ^ 31) / 2 ^ 32) 1 n)

pub outside-none : (t : ℕ) → (t + 2 ^ 31) / 2 ^ 32 ≡ 1 → outside_of t ≡ 0
unfolding outside_of
outside-none t e = simp (eq-eqb ((t + 2 ^ 31) / 2 ^ 32) 1 e)

-- OV and S of a difference t - 2 ^ 32 whose word is t mod 2 ^ 32: they differ where it is negative
pub negative-flags : (t : ℕ) → t < 2 ^ 33 → ◌xor◌ (eqb (outside_of t) 1) (eqb (sign_of (t % 2 ^ 32)) 1) ≡ ltb t (2 ^ 32)
negative-flags t h =
    elim (dec_lt t (2 ^ 32)) [
      | yes p ↦
          let l : ltb t (2 ^ 32) ≡ true = lt-ltb t (2 ^ 32) p in
          elim (dec_lt t (2 ^ 31)) [
            | yes q ↦
                let o : outside_of t ≡ 1 = outside-one t (omega arith) in
                let s : t % 2 ^ 32 / 2 ^ 31 ≡ 0 = omega arith in
                rw (o, s, l)
            | no q ↦
                let o : outside_of t ≡ 0 = outside-none t (omega arith) in
                let s : t % 2 ^ 32 / 2 ^ 31 ≡ 1 = omega arith in
                rw (o, s, l)
          ]
      | no p ↦
          let l : ltb t (2 ^ 32) ≡ false = le-ltb t (2 ^ 32) (omega arith) in
          elim (dec_lt t (2 ^ 32 + 2 ^ 31)) [
            | yes q ↦
                let o : outside_of t ≡ 0 = outside-none t (omega arith) in
                let s : t % 2 ^ 32 / 2 ^ 31 ≡ 0 = omega arith in
                rw (o, s, l)
            | no q ↦
                let o : outside_of t ≡ 1 = outside-one t (omega arith) in
                let s : t % 2 ^ 32 / 2 ^ 31 ≡ 1 = omega arith in
                rw (o, s, l)
          ]
    ]

-- the word of a difference by the biased readings
pub difference-word : (a b : ℕ) → b < 2 ^ 32 → (a + (2 ^ 32 - b)) % 2 ^ 32 ≡ (biased_of a + (2 ^ 32 - biased_of b)) % 2 ^ 32
difference-word a b hb = unfold biased_of in omega arith

pub less-set : (a b psw : ℕ) → a < 2 ^ 32 → b < 2 ^ 32
    → ◌xor◌ (is_set ov_flag (compare_of a b psw).psw) (is_set s_flag (compare_of a b psw).psw) ≡ lt_z (signed a) (signed b)
unfolding compare_of
less-set a b psw ha hb =
    let t = biased_of a + (2 ^ 32 - biased_of b) in
    let p = difference-placed a b psw ha hb in
    let sa : biased_of a < 2 ^ 32 = bias-small a in
    let sb : biased_of b < 2 ^ 32 = bias-small b in
    ap (λ (n : ℕ). ◌xor◌ (eqb n 1) (is_set s_flag (difference_of a b psw).psw)) (p.at_ov ∙ sym (difference-outside a b ha hb))
    ∙ ap (λ (n : ℕ). ◌xor◌ (eqb (outside_of t) 1) (eqb n 1)) (p.at_s ∙ ap sign_of (difference-word a b hb))
    ∙ negative-flags t (omega arith)
    ∙ less-same t (2 ^ 32) (biased_of a + 2 ^ 31) (biased_of b + 2 ^ 31) (omega arith) (omega arith)
    ∙ sym (is-lt-test (signed-biased a ha) (signed-biased b hb))

pub less-equal-set : (a b psw : ℕ) → a < 2 ^ 32 → b < 2 ^ 32
    → pick (lt_z (signed a) (signed b)) true (eqb a b) ≡ le_z (signed a) (signed b)
less-equal-set a b psw ha hb =
    let sa = signed-biased a ha in
    let sb = signed-biased b hb in
    ap₂ (λ (s t : Bool). pick s true t) (is-lt-test sa sb) (bias-equal a b ha hb)
    ∙ less-or-equal (biased_of a + 2 ^ 31) (biased_of b + 2 ^ 31)
    ∙ sym (is-le-test sa sb)
