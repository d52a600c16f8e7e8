-- The flags that are kept, read back from PSW, and the tests of them that the conditions make.
use Rattle.std.proofs.Common.{◌≡◌, ℕ, zero, suc, ◌+◌, ◌*◌, ◌/◌, ◌%◌, ◌^◌, ◌<◌, ◌≤◌, Bool, true, false, not, eqb, ltb, leb, ◌+ℤ◌, sym, refl, ap, ◌∙◌, ap₂, arith, eq-eqb, ne_eqb, le-leb}
use mathlib.Core.Bool.{not-not}
use native.Mathlib.Decide.{dec_lt}
use borrow.Author.Tests.{lt-leb}
use lib.Bits.{bit_xor, xor_shr, xor_lt}
use Rattle.word.specs.Bit.{is_set}
use Rattle.word.specs.Choose.{pick}
use Rattle.processor_arithmetic.proofs.Bits.{bit-small}
use Rattle.processor_arithmetic.specs.Condition.{◌xor◌, condition_of}
use Rattle.processor_arithmetic.specs.Flag.{bit_of, zero_of, flags_of, s_flag, ov_flag}
use Rattle.processor_arithmetic.specs.Integer.{signed, outside}
use Rattle.processor_lazy_flags.specs.inner.Packed.{packed_value_of, part_in, sum_in, other_in, carry_of, overflow_of, packed_of}
use Rattle.processor_lazy_flags.specs.declared.Flags.{Flags}

module _ (psw : ℕ) (g : Flags) where
  z : bit_of (eqb (packed_value_of g) 0) < 2
  z = bit-small (eqb (packed_value_of g) 0)

  c : carry_of g < 2
  c = bit-small (ltb (sum_in g) (part_in g))

  o : overflow_of g < 2
  o = bit-small (outside (signed (part_in g) +ℤ signed (other_in g)))

  pub carry-bit : packed_of psw g / 8 % 2 ≡ carry_of g
  unfolding packed_of flags_of
  carry-bit = omega (arith, z, c, o)

  pub overflow_bit : packed_of psw g / 4 % 2 ≡ overflow_of g
  unfolding packed_of flags_of
  overflow_bit = omega (arith, z, c, o)

  pub sign_bit : packed_of psw g / 2 % 2 ≡ packed_value_of g / 2 ^ 31 % 2
  unfolding packed_of flags_of
  sign_bit = omega (arith, z, c, o)

  pub zero_bit : packed_of psw g / 1 % 2 ≡ zero_of (packed_value_of g)
  unfolding packed_of flags_of
  zero_bit = omega (arith, z, c, o)

-- a word's top bit, by a comparison
pub top_bit : (x : ℕ) → x < 2 ^ 32 → leb (2 ^ 31) x ≡ eqb (x / 2 ^ 31 % 2) 1
top_bit x h =
    elim (dec_lt x (2 ^ 31)) [
      | yes l ↦
          let n : x / 2 ^ 31 % 2 ≡ 1 → ⊥ = λ e. omega arith in
          simp (lt-leb (2 ^ 31) x l, ne_eqb (x / 2 ^ 31 % 2) 1 n)
      | no l ↦
          let k : 2 ^ 31 ≤ x = omega arith in
          let e : x / 2 ^ 31 % 2 ≡ 1 = omega arith in
          simp (le-leb (2 ^ 31) x k, eq-eqb (x / 2 ^ 31 % 2) 1 e)
    ]

pub bit-one : (b : Bool) → eqb (bit_of b) 1 ≡ b
bit-one true = refl
bit-one false = refl

-- two binary digits
digits : (p q : ℕ) → p < 2 → q < 2 → eqb (bit_xor p q) 1 ≡ ◌xor◌ (eqb q 1) (eqb p 1)
digits zero zero hp hq = refl
digits zero (suc zero) hp hq = refl
digits (suc zero) zero hp hq = refl
digits (suc zero) (suc zero) hp hq = refl
digits zero (suc (suc q)) hp hq = absurd (omega arith)
digits (suc zero) (suc (suc q)) hp hq = absurd (omega arith)
digits (suc (suc p)) q hp hq = absurd (omega arith)

-- the top bits of two words differ
pub top-differ : (x y : ℕ) → x < 2 ^ 32 → y < 2 ^ 32 → leb (2 ^ 31) (bit_xor x y) ≡ ◌xor◌ (eqb (y / 2 ^ 31 % 2) 1) (eqb (x / 2 ^ 31 % 2) 1)
top-differ x y hx hy =
    let p : x / 2 ^ 31 < 2 = omega arith in
    let q : y / 2 ^ 31 < 2 = omega arith in
    let d : bit_xor (x / 2 ^ 31) (y / 2 ^ 31) < 2 = xor_lt 1 (x / 2 ^ 31) (y / 2 ^ 31) p q in
    let e : bit_xor x y / 2 ^ 31 % 2 ≡ bit_xor (x / 2 ^ 31) (y / 2 ^ 31) = omega (arith, xor_shr x y 31) in
    let f : x / 2 ^ 31 % 2 ≡ x / 2 ^ 31 = omega arith in
    let h : y / 2 ^ 31 % 2 ≡ y / 2 ^ 31 = omega arith in
    top_bit (bit_xor x y) (xor_lt 32 x y hx hy) ∙ rw (e, f, h) (digits (x / 2 ^ 31) (y / 2 ^ 31) p q)

-- a number that is none of the first n reaches n
abbrev pub Apart : ℕ → ℕ → Type 0
Apart zero i = Unit {0}
Apart (suc n) i = Apart n i × (i ≡ n → ⊥)

pub past : (n i : ℕ) → Apart n i → n ≤ i
past zero i a = omega arith
past (suc n) i a =
    let e : n ≤ i = past n i a.0 in
    let f : i ≡ n → ⊥ = a.1 in
    omega arith

-- a condition's number counts by its low four bits
pub same-condition : (k cond p : ℕ) → cond % 16 ≡ k → condition_of k p ≡ condition_of cond p
unfolding condition_of
same-condition k cond p e =
    let h : k % 16 ≡ cond % 16 = omega arith in
    rw h

-- a condition and its opposite, eight numbers on; H and GT from the conditions that they are made of
module _ (p : ℕ) where
  pub opposite : (k : ℕ) → k < 8 → not (condition_of k p) ≡ condition_of (8 + k) p
  unfolding condition_of
  opposite zero h = refl
  opposite (suc zero) h = refl
  opposite (suc (suc zero)) h = refl
  opposite (suc (suc (suc zero))) h = refl
  opposite (suc (suc (suc (suc zero)))) h = refl
  opposite (suc (suc (suc (suc (suc zero))))) h = refl
  opposite (suc (suc (suc (suc (suc (suc zero)))))) h = refl
  opposite (suc (suc (suc (suc (suc (suc (suc zero))))))) h = refl
  opposite (suc (suc (suc (suc (suc (suc (suc (suc k)))))))) h = absurd (omega arith)

  pub opposite-back : (k : ℕ) → k < 8 → not (condition_of (8 + k) p) ≡ condition_of k p
  opposite-back k h = ap not (sym (opposite k h)) ∙ not-not _

  pub always : true ≡ condition_of 5 p
  unfolding condition_of
  always = refl

  pub never : false ≡ condition_of 13 p
  unfolding condition_of
  never = refl

  pub higher-carry : condition_of 1 p ≡ true → false ≡ condition_of 11 p
  unfolding condition_of
  higher-carry e = rw e

  pub higher-none : condition_of 1 p ≡ false → not (condition_of 2 p) ≡ condition_of 11 p
  unfolding condition_of
  higher-none e = rw e

  pub greater-zero : condition_of 2 p ≡ true → false ≡ condition_of 15 p
  unfolding condition_of
  greater-zero e = rw e (or-true (◌xor◌ (is_set ov_flag p) (is_set s_flag p)))
    where
      or-true : (b : Bool) → false ≡ not (pick b true true)
      or-true true = refl
      or-true false = refl

  pub greater-none : condition_of 2 p ≡ false → not (condition_of 6 p) ≡ condition_of 15 p
  unfolding condition_of
  greater-none e = rw e (or-false (◌xor◌ (is_set ov_flag p) (is_set s_flag p)))
    where
      or-false : (b : Bool) → not b ≡ not (pick b true false)
      or-false true = refl
      or-false false = refl
