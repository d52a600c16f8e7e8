-- The accepted lengths by the code's tests: a number with one bit set is a power of two. Assumes nothing.
use Prim.Native.Nat.{ℕ, zero, suc, ◌+◌, ◌/◌, ◌%◌, ◌^◌, ◌≤◌, ◌<◌}
use mathlib.Core.Bool.{true, true≢false, ◌&&◌, ◌||◌}
use mathlib.Core.Path.{◌≡◌, refl, sym, ◌∙◌}
use native.Mathlib.Decide.{ℕ_discrete, dec_lt}
use native.Mathlib.Nat.{pow-suc}
use native.Mathlib.Omega.{arith}
use borrow.Author.Tests.{eq-eqb, ne_eqb, le-leb, leb-true, eqb-true}
use lib.Count.{ones_step}
use lib.Dec.{leb, eqb}
use lib.Pow.{pow_pos, pow_mono}
use Rattle.std.specs.Int.{is_power_of_two}
use Rattle.std.proofs.lemmas.Nat.{zero_from_ones, ones_le_self}
use Rattle.std.specs.Prelude.{count_ones}
use Rattle.word.specs.Choose.{member}
use Rattle.word.proofs.Choices.{test-same, and_left, and_right}
use Rattle.bus.specs.Refusal.{powers_from, rom_ok, pak_ok}

record IsPower (n : ℕ) : Type 0 where
  exponent : ℕ
  is : n ≡ 2 ^ exponent

-- one bit set
one-bit : (d n : ℕ) → n ≤ d → count_ones n ≡ 1 → IsPower n
one-bit zero n h e = absurd (omega (arith, ones_le_self n))
one-bit (suc d) n h e =
    let s = ones_step n in
    let some : 0 < n = omega (arith, ones_le_self n) in
    elim (ℕ_discrete (n % 2) 0) [
      | yes even ↦
          let half = one-bit d (n / 2) (omega arith) (omega arith) in
          record { exponent = suc half.exponent; is = omega (arith, half.is, pow-suc 2 half.exponent) }
      | no odd ↦
          let none : n / 2 ≡ 0 = zero_from_ones (n / 2) (omega arith) in
          record { exponent = 0; is = omega arith }
    ]

power-ones : (k : ℕ) → count_ones (2 ^ k) ≡ 1
unfolding lib.Count.ones
power-ones zero = refl
power-ones (suc k) =
    let s = ones_step (2 ^ suc k) in
    let p = pow-suc 2 k in
    let half : 2 ^ suc k / 2 ≡ 2 ^ k = omega arith in
    s ∙ rw (half, power-ones k) (omega arith)

module _ (n : ℕ) where
  listed : (first count k : ℕ) → first ≤ k → k < first + count → n ≡ 2 ^ k → member n (powers_from first count) ≡ true
  listed first zero k low high e = absurd (omega arith)
  listed first (suc count) k low high e =
      elim (ℕ_discrete n (2 ^ first)) [
        | yes same ↦ simp (eq-eqb n (2 ^ first) same)
        | no other ↦
            elim (ℕ_discrete k first) [
              | yes f ↦ absurd (other (rw (← f) e))
              | no f ↦ simp (ne_eqb n (2 ^ first) other) (listed (suc first) count k (omega arith) (omega arith) e)
            ]
      ]

  record Listed (first count : ℕ) : Type 0 where
    exponent : ℕ
    low : first ≤ exponent
    high : exponent < first + count
    is : n ≡ 2 ^ exponent

  listing : (first count : ℕ) → member n (powers_from first count) ≡ true → Listed first count
  listing first zero h = absurd (true≢false (sym h))
  listing first (suc count) h =
      elim (ℕ_discrete n (2 ^ first)) [
        | yes same ↦ record { exponent = first; low = omega arith; high = omega arith; is = same }
        | no other ↦
            let rest = listing (suc first) count (simp (ne_eqb n (2 ^ first) other) at h) in
            record { exponent = rest.exponent; low = omega (arith, rest.low); high = omega (arith, rest.high); is = rest.is }
      ]

  -- the powers of two from 2 ^ first to 2 ^ last
  module _ (first count last : ℕ) (span : first + count ≡ suc last) where
    listed-between : is_power_of_two n ≡ true → 2 ^ first ≤ n → n ≤ 2 ^ last → member n (powers_from first count) ≡ true
    listed-between h low high =
        let p = one-bit n n (omega arith) (eqb-true _ _ h) in
        listed first count p.exponent
        (elim (dec_lt p.exponent first) [
          | yes less ↦
              absurd (omega (arith, p.is, pow_mono {i = suc p.exponent} {j = first} (omega arith), pow-suc 2 p.exponent, pow_pos p.exponent))
          | no more ↦ omega arith
        ])
        (elim (dec_lt last p.exponent) [
          | yes more ↦
              absurd (omega (arith, p.is, pow_mono {i = suc last} {j = p.exponent} (omega arith), pow-suc 2 last, pow_pos last))
          | no less ↦ omega arith
        ])
        p.is

    record Between : Type 0 where
      one : is_power_of_two n ≡ true
      low : 2 ^ first ≤ n
      high : n ≤ 2 ^ last

    between : member n (powers_from first count) ≡ true → Between
    between h =
        let l = listing first count h in
        record {
          one = eq-eqb _ _ (rw l.is (power-ones l.exponent));
          low = omega (arith, l.is, pow_mono {i = first} {j = l.exponent} l.low);
          high = omega (arith, l.is, pow_mono {i = l.exponent} {j = last} (omega (arith, l.high)));
        }

  -- a ROM's length
  pub rom_test : rom_ok n ≡ (is_power_of_two n && (leb 1024 n && leb n 16777216))
  unfolding rom_ok
  rom_test =
      test-same (rom_ok n) (is_power_of_two n && (leb 1024 n && leb n 16777216))
      (λ h. let b = between 10 15 24 refl h in simp (b.one, le-leb 1024 n b.low, le-leb n 16777216 b.high))
      (λ h.
      let range = and_right (is_power_of_two n) (leb 1024 n && leb n 16777216) h in
      listed-between 10 15 24 refl (and_left (is_power_of_two n) (leb 1024 n && leb n 16777216) h)
      (leb-true _ _ (and_left (leb 1024 n) (leb n 16777216) range)) (leb-true _ _ (and_right (leb 1024 n) (leb n 16777216) range)))

  -- that of pak RAM
  pub pak_test : pak_ok n ≡ (eqb n 0 || (is_power_of_two n && leb n 16777216))
  unfolding pak_ok
  pak_test =
      elim (ℕ_discrete n 0) [
        | yes none ↦ simp (eq-eqb n 0 none)
        | no some ↦
            simp (ne_eqb n 0 some)
            (test-same (member n (powers_from 0 25)) (is_power_of_two n && leb n 16777216)
            (λ h. let b = between 0 25 24 refl h in simp (b.one, le-leb n 16777216 b.high))
            (λ h.
            listed-between 0 25 24 refl (and_left (is_power_of_two n) (leb n 16777216) h) (omega arith)
            (leb-true _ _ (and_right (is_power_of_two n) (leb n 16777216) h))))
      ]
