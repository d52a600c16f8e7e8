-- The accepted lengths are powers of two: a mask is the remainder, the remainder of an even address leaves room for
-- the next byte, and 27 bits of an address are enough. Assumes nothing.
use Prim.Native.Nat.{ℕ, zero, suc, ◌+◌, ◌-◌, ◌*◌, ◌/◌, ◌%◌, ◌^◌, ◌<◌, ◌≤◌}
use mathlib.Core.Bool.{true, false≢true}
use mathlib.Core.Path.{◌≡◌, sym, ap, subst, ◌∙◌}
use native.Mathlib.Nat.{mod-lt}
use native.Mathlib.Decide.{ℕ_discrete}
use native.Mathlib.Omega.{arith}
use borrow.Author.Tests.{ne_eqb}
use lib.Bits.{bit_and, and_mask}
use lib.Pow.{pow_pos, pow-add, mod-mod-pow}
use lib.Arith.{mod-mul}
use Rattle.word.proofs.Listed.{member-every}
use Rattle.word.specs.Choose.{member}
use Rattle.bus.specs.Refusal.{powers_from, rom_ok, pak_ok}

-- n is 2 to the power of `above + least`, and at most 2 ^ 27
pub record Power (least n : ℕ) : Type 0 where
  pub above : ℕ
  pub spare : ℕ
  pub is : n ≡ 2 ^ (above + least)
  pub within : spare + (above + least) ≡ 27

power : (least n : ℕ) → least ≤ n → n ≤ 27 → Power least (2 ^ n)
power least n low high =
    let e : n ≡ n - least + least = omega arith in
    record { above = n - least; spare = 27 - n; is = ap (λ (k : ℕ). 2 ^ k) e; within = omega arith }

-- one of the powers from 2 ^ k on
among : (least n k count : ℕ) → least ≤ k → k + count ≤ 28 → member n (powers_from k count) ≡ true → Power least n
among least n k zero low high h = absurd (false≢true h)
among least n k (suc count) low high h =
    elim (ℕ_discrete n (2 ^ k)) [
      | yes e ↦ subst (Power least) (sym e) (power least k low (omega arith))
      | no ne ↦ among least n (suc k) count (omega arith) (omega arith) (simp (ne_eqb n (2 ^ k) ne) at h)
    ]

-- a ROM's length
pub rom-power : (n : ℕ) → rom_ok n ≡ true → Power 2 n
unfolding rom_ok
rom-power n h = among 2 n 10 15 (omega arith) (omega arith) h

-- the length of pak RAM that is not empty
pub pak-power : (n : ℕ) → pak_ok n ≡ true → 0 < n → Power 0 n
unfolding pak_ok
pak-power n h filled =
    let ne : n ≡ 0 → ⊥ = λ e. omega arith in
    among 0 n 0 25 (omega arith) (omega arith) (simp (ne_eqb n 0 ne) at h)

-- a ROM may be as long as some pak RAM
pub rom-as-pak : (n : ℕ) → rom_ok n ≡ true → pak_ok n ≡ true
unfolding rom_ok pak_ok
rom-as-pak n h = member-every pak_ok n (powers_from 10 15) tt h

module _ (least n : ℕ) (p : Power least n) where
  pub power_pos : 0 < n
  power_pos = subst (λ (k : ℕ). 0 < k) (sym p.is) (pow_pos (p.above + least))

  -- a mask is the remainder
  pub power-mask : (a : ℕ) → bit_and a (n - 1) ≡ a % n
  power-mask a = subst (λ (k : ℕ). bit_and a (k - 1) ≡ a % k) (sym p.is) (and_mask a (p.above + least))

  -- 27 bits of an address are enough
  pub power-low : (a : ℕ) → a % 2 ^ 27 % n ≡ a % n
  power-low a =
      subst (λ (k : ℕ). a % 2 ^ k % n ≡ a % n) p.within
      (subst (λ (k : ℕ). a % 2 ^ (p.spare + (p.above + least)) % k ≡ a % k) (sym p.is) (mod-mod-pow a p.spare (p.above + least)))

-- a multiple of four
module _ (n : ℕ) (p : Power 2 n) where
  fours : n ≡ 2 ^ p.above * 4
  fours = p.is ∙ pow-add 2 p.above 2

  by-four : (s : ℕ) → s % n ≡ s / 4 % 2 ^ p.above * 4 + s % 4
  by-four s = rw fours (mod-mul s {m = 2 ^ p.above} {c = 4} (pow_pos p.above) (omega arith))

  quarter : (s : ℕ) → s / 4 % 2 ^ p.above < 2 ^ p.above
  quarter s = mod-lt (s / 4) (pow_pos p.above)

  -- within a group of four bytes the remainder goes on by one
  pub power-step : (s j : ℕ) → s % 4 + j < 4 → (s + j) % n ≡ s % n + j
  power-step s j h =
      let e : (s + j) / 4 ≡ s / 4 = omega arith in
      let f : (s + j) % 4 ≡ s % 4 + j = omega arith in
      by-four (s + j) ∙ rw (e, f) (sym (omega (arith, by-four s)))

  -- and stays below n
  pub power-room : (s j : ℕ) → s % 4 + j < 4 → s % n + j < n
  power-room s j h = omega (arith, by-four s, quarter s, fours)
