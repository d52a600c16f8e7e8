-- The addition that lazy flags keep: of a sum, of a difference, and for a CY and an OV that are known.
use Rattle.std.proofs.Common.{◌≡◌, ℕ, zero, suc, ◌+◌, ◌-◌, ◌*◌, ◌/◌, ◌%◌, ◌^◌, ◌<◌, ◌≤◌, ltb, leb, ◌+ℤ◌, ◌-ℤ◌, sym, refl, ◌∙◌, arith, le-ltb, lt-ltb, le-leb}
use native.Mathlib.Decide.{dec_lt}
use borrow.Author.Tests.{lt-leb}
use lib.Bits.{bit_and, bit_xor}
use Rattle.processor_arithmetic.specs.Flag.{bit_of, zero_of}
use Rattle.processor_arithmetic.specs.Integer.{signed, outside}
use Rattle.processor_arithmetic.proofs.Overflow.{sum-overflow-signs, difference-sum-outside}
use Rattle.processor_lazy_flags.specs.inner.Packed.{packed_value_of, carry_of, overflow_of, Holds}
use Rattle.processor_lazy_flags.specs.declared.Flags.{Flags}

-- a wrapped sum is less than a part where it wrapped
carry-less : (a b : ℕ) → a < 2 ^ 32 → b < 2 ^ 32 → ltb ((a + b) % 2 ^ 32) a ≡ leb (2 ^ 32) (a + b)
carry-less a b ha hb =
    elim (dec_lt (a + b) (2 ^ 32)) [
      | yes h ↦
          let k : a ≤ (a + b) % 2 ^ 32 = omega arith in
          simp (lt-leb (2 ^ 32) (a + b) h, le-ltb ((a + b) % 2 ^ 32) a k)
      | no h ↦
          let k : 2 ^ 32 ≤ a + b = omega arith in
          let l : (a + b) % 2 ^ 32 < a = omega arith in
          simp (le-leb (2 ^ 32) (a + b) k, lt-ltb ((a + b) % 2 ^ 32) a l)
    ]

-- a word is less than its wrapped difference where it borrowed
borrow-less : (a b : ℕ) → a < 2 ^ 32 → b < 2 ^ 32 → ltb a ((a + (2 ^ 32 - b)) % 2 ^ 32) ≡ ltb a b
borrow-less a b ha hb =
    elim (dec_lt a b) [
      | yes h ↦
          let k : a < (a + (2 ^ 32 - b)) % 2 ^ 32 = omega arith in
          simp (lt-ltb a b h, lt-ltb a ((a + (2 ^ 32 - b)) % 2 ^ 32) k)
      | no h ↦
          let k : b ≤ a = omega arith in
          let l : (a + (2 ^ 32 - b)) % 2 ^ 32 ≤ a = omega arith in
          simp (le-ltb a b k, le-ltb a ((a + (2 ^ 32 - b)) % 2 ^ 32) l)
    ]

module _ (a b : ℕ) (r : Flags) (ha : a < 2 ^ 32) (hb : b < 2 ^ 32) where
  pub sum-holds : r.value ≡ (a + b) % 2 ^ 32 → r.addition ≡ (a + b) % 2 ^ 32 * 2 ^ 32 + a
      → Holds r ((a + b) % 2 ^ 32) (bit_of (leb (2 ^ 32) (a + b))) (bit_of (outside (signed a +ℤ signed b)))
  sum-holds v e =
      let s : r.addition / 2 ^ 32 ≡ (a + b) % 2 ^ 32 = omega arith in
      let p : r.addition % 2 ^ 32 ≡ a = omega arith in
      let o : ((a + b) % 2 ^ 32 + (2 ^ 32 - a)) % 2 ^ 32 ≡ b = omega arith in
      record { value = omega arith; carry = rw (s, p, carry-less a b ha hb); overflow = rw (s, p, o) }

  pub difference-holds : r.value ≡ (a + (2 ^ 32 - b)) % 2 ^ 32 → r.addition ≡ a * 2 ^ 32 + (a + (2 ^ 32 - b)) % 2 ^ 32
      → Holds r ((a + (2 ^ 32 - b)) % 2 ^ 32) (bit_of (ltb a b)) (bit_of (outside (signed a -ℤ signed b)))
  difference-holds v e =
      let s : r.addition / 2 ^ 32 ≡ a = omega arith in
      let p : r.addition % 2 ^ 32 ≡ (a + (2 ^ 32 - b)) % 2 ^ 32 = omega arith in
      let o : (a + (2 ^ 32 - (a + (2 ^ 32 - b)) % 2 ^ 32)) % 2 ^ 32 ≡ b = omega arith in
      record { value = omega arith; carry = rw (s, p, borrow-less a b ha hb); overflow = rw (s, p, o) (difference-sum-outside a b ha hb) }

-- S and Z of PSW, not both set, on top of a word
pub value-flags : (p : ℕ) → p < 4 → (p ≡ 3 → ⊥)
    → (bit_xor p 1 * 1073741824 / 2 ^ 31 * 2 + zero_of (bit_xor p 1 * 1073741824) ≡ p) × (bit_xor p 1 * 1073741824 < 2 ^ 32)
value-flags zero h n = (refl, omega arith)
value-flags (suc zero) h n = (refl, omega arith)
value-flags (suc (suc zero)) h n = (refl, omega arith)
value-flags (suc (suc (suc zero))) h n = absurd (n refl)
value-flags (suc (suc (suc (suc p)))) h n = absurd (omega arith)

-- OV of an addition of known numbers
known : (p q s ov : ℕ) → p < 2 ^ 32 → q < 2 ^ 32 → s ≡ (p + q) % 2 ^ 32 → bit_and (bit_xor p s) (bit_xor q s) / 2 ^ 31 ≡ ov
    → bit_of (outside (signed p +ℤ signed q)) ≡ ov
known p q s ov hp hq e o = sym (sum-overflow-signs p q s hp hq e) ∙ o

-- CY alone: a part of 0 or 1, and the sum 0
pub carried-holds : (r : Flags) (cy : ℕ) → cy < 2 → r.value < 2 ^ 32 → r.addition ≡ cy → Holds r r.value cy 0
carried-holds r zero h v e =
    record { value = omega arith; carry = rw e; overflow = rw e (known 0 0 0 0 (omega arith) (omega arith) refl refl) }
carried-holds r (suc zero) h v e =
    record { value = omega arith; carry = rw e; overflow = rw e (known 1 4294967295 0 0 (omega arith) (omega arith) refl refl) }
carried-holds r (suc (suc cy)) h v e = absurd (omega arith)

-- CY of other flags alone: the high word of the sum less the part, at 64 bits
pub cleared-holds : (r g : Flags) (d : ℕ) → r.value < 2 ^ 32 → g.addition < 2 ^ 64 → d < 2 ^ 64
    → (d + g.addition % 2 ^ 32) % 2 ^ 64 ≡ g.addition / 2 ^ 32 → r.addition ≡ d / 2 ^ 32 → Holds r r.value (carry_of g) 0
cleared-holds r g d v a b e k =
    elim (dec_lt (g.addition / 2 ^ 32) (g.addition % 2 ^ 32)) [
      | yes l ↦
          let n : r.addition ≡ 4294967295 = omega arith in
          record {
            value = omega arith;
            carry = rw (n, lt-ltb (g.addition / 2 ^ 32) (g.addition % 2 ^ 32) l);
            overflow = rw n (known 4294967295 1 0 0 (omega arith) (omega arith) refl refl);
          }
      | no l ↦
          let n : r.addition ≡ 0 = omega arith in
          let m : g.addition % 2 ^ 32 ≤ g.addition / 2 ^ 32 = omega arith in
          record {
            value = omega arith;
            carry = rw (n, le-ltb (g.addition / 2 ^ 32) (g.addition % 2 ^ 32) m);
            overflow = rw n (known 0 0 0 0 (omega arith) (omega arith) refl refl);
          }
    ]

-- CY and OV: both parts have CY for their top bit, the sum has the carry into it
pub made_holds : (r : Flags) (cy ov : ℕ) → cy < 2 → ov < 2 → r.value < 2 ^ 32
    → r.addition ≡ bit_xor cy ov * 2147483648 * 2 ^ 32 + (cy * 2147483648 + bit_xor cy ov) → Holds r r.value cy ov
made_holds r zero zero h k v e =
    record { value = omega arith; carry = rw e; overflow = rw e (known 0 0 0 0 (omega arith) (omega arith) refl refl) }
made_holds r zero (suc zero) h k v e =
    record { value = omega arith; carry = rw e; overflow = rw e (known 1 2147483647 2147483648 1 (omega arith) (omega arith) refl refl) }
made_holds r (suc zero) zero h k v e =
    record { value = omega arith; carry = rw e; overflow = rw e (known 2147483649 4294967295 2147483648 0 (omega arith) (omega arith) refl refl) }
made_holds r (suc zero) (suc zero) h k v e =
    record { value = omega arith; carry = rw e; overflow = rw e (known 2147483648 2147483648 0 1 (omega arith) (omega arith) refl refl) }
made_holds r zero (suc (suc ov)) h k v e = absurd (omega arith)
made_holds r (suc zero) (suc (suc ov)) h k v e = absurd (omega arith)
made_holds r (suc (suc cy)) ov h k v e = absurd (omega arith)
