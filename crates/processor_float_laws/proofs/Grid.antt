-- Rounding to 24 binary digits gives the nearest number of that many digits, a tie the even one. Sizes are in units of
-- 2 ^ -149: the exact one is n / c, and the rounded one q * 2 ^ k, where k digits are dropped. Assumes nothing.
use Prim.Native.Nat.{ℕ, zero, suc, ◌+◌, ◌-◌, ◌*◌, ◌/◌, ◌%◌, ◌^◌, ◌<◌, ◌≤◌, compare}
use mathlib.Core.Path.{◌≡◌, refl, sym, subst, ◌∙◌, ap}
use mathlib.Core.Logic.{◌≢◌}
use native.Mathlib.Decide.{dec_lt, ℕ_discrete}
use native.Mathlib.Nat.{mul_assoc, mul_comm, mul_right_comm, mul-pos, mul-le-mul, mul-le-mul_right}
use native.Mathlib.Nat.{mul-lt-mul_of_pos_right, add-mul, one-mul, suc-mul, mod-lt, div-add-mod', le-div_iff_mul-le}
use native.Mathlib.Nat.{le_trans}
use native.Mathlib.Omega.{arith}
use lib.Pow.{pow_pos, pow-add, pow_mono, shl_lt}
use lib.Ieee.{size}
use lib.Ieee.Digits.{size_reaches}
use lib.Ieee.Nearest.{closest}
use lib.Ieee.Order.{drop, kept}
use Rattle.processor_float.proofs.Closest.{closest-less, closest-tie, closest-more}

-- how far apart two natural numbers are
abbrev pub apart : ℕ → ℕ → ℕ
apart a b = (a - b) + (b - a)

-- what it is to be a nearest multiple q of u to n: within a half, and even at a half
pub record Closest (n u q : ℕ) : Type 0 where
  pub above : 2 * (q * u) ≤ 2 * n + u
  pub under : 2 * n ≤ 2 * (q * u) + u
  pub tie_above : 2 * (q * u) ≡ 2 * n + u → q % 2 ≡ 0
  pub tie_under : 2 * n ≡ 2 * (q * u) + u → q % 2 ≡ 0

module _ (n u : ℕ) (U : 0 < u) where
  d : ℕ
  d = n / u

  r : ℕ
  r = n % u

  parts : n / u * u + n % u ≡ n
  parts = div-add-mod' n u

  within : (q : ℕ) → closest n u ≡ q → Closest n u q → Closest n u (closest n u)
  within q e h = subst (Closest n u) (sym e) h

  next : suc (n / u) * u ≡ n / u * u + u
  next = suc-mul (n / u) u

  down-case : n % u * 2 < u → Closest n u (n / u)
  down-case h = record {
    above = omega (arith, parts);
    under = omega (arith, parts);
    tie_above = λ e. absurd (omega
        (arith, parts));
    tie_under = λ e. absurd (omega (arith, parts));
  }

  up-case : u < n % u * 2 → Closest n u (suc (n / u))
  up-case h = record {
    above = omega (arith, parts, next, mod-lt n U);
    under = omega
        (arith, parts, next, mod-lt n U);
    tie_above = λ e. absurd (omega
        (arith, parts, next, mod-lt n U));
    tie_under = λ e. absurd (omega (arith, parts, next, mod-lt n U));
  }

  even-case : n % u * 2 ≡ u → n / u % 2 ≡ 0 → Closest n u (n / u)
  even-case h e = record { above = omega (arith, parts); under = omega (arith, parts); tie_above = λ z. e; tie_under = λ z. e }

  odd-case : n % u * 2 ≡ u → n / u % 2 ≡ 1 → Closest n u (suc (n / u))
  odd-case h e =
      let even : suc (n / u) % 2 ≡ 0 = omega arith in
      record { above = omega (arith, parts, next); under = omega (arith, parts, next); tie_above = λ z. even; tie_under = λ z. even }

  pub closest-is : Closest n u (closest n u)
  closest-is =
      elim (dec_lt (n % u * 2) u) [
        | yes h ↦ within (n / u) (closest-less n u h) (down-case h)
        | no h ↦
            elim (dec_lt u (n % u * 2)) [
              | yes g ↦ within (suc (n / u)) (closest-more n u g) (up-case g)
              | no g ↦
                  let t : n % u * 2 ≡ u = omega arith in
                  elim (dec_lt (n / u % 2) 1) [
                    | yes z ↦
                        let e : n / u % 2 ≡ 0 = omega arith in
                        within (n / u) (closest-tie n u t ∙ ap (λ (x : ℕ). n / u + x) e ∙ native.Mathlib.Nat.add-zero (n / u)) (even-case t e)
                    | no z ↦
                        let e : n / u % 2 ≡ 1 = omega arith in
                        within (suc (n / u)) (closest-tie n u t ∙ ap (λ (x : ℕ). n / u + x) e ∙ native.Mathlib.Numerals.add-one (n / u)) (odd-case t e)
                  ]
            ]
      ]

-- among the multiples of u no other is nearer, and where one is as near q is even
module _ (n u q z : ℕ) (h : Closest n u q) where
  higher : q < z → (apart (q * u) n ≤ apart (z * u) n) × (apart (q * u) n ≡ apart (z * u) n → q % 2 ≡ 0)
  higher l =
      let m : suc q * u ≤ z * u = mul-le-mul_right u l in
      let s : suc q * u ≡ q * u + u = suc-mul q u in
      (omega (arith, h.above, h.under), λ e. h.tie_under (omega (arith, h.above, h.under)))

  lower : z < q → (apart (q * u) n ≤ apart (z * u) n) × (apart (q * u) n ≡ apart (z * u) n → q % 2 ≡ 0)
  lower l =
      let m : suc z * u ≤ q * u = mul-le-mul_right u l in
      let s : suc z * u ≡ z * u + u = suc-mul z u in
      (omega (arith, h.above, h.under), λ e. h.tie_above (omega (arith, h.above, h.under)))

  pub nearest-multiple : (apart (q * u) n ≤ apart (z * u) n) × (apart (q * u) n ≡ apart (z * u) n → z ≢ q → q % 2 ≡ 0)
  nearest-multiple =
      elim (dec_lt q z) [
        | yes l ↦ ((higher l).0, λ e ne. (higher l).1 e)
        | no l ↦
            elim (dec_lt z q) [
              | yes g ↦ ((lower g).0, λ e ne. (lower g).1 e)
              | no g ↦
                  let same : z ≡ q = omega arith in
                  (subst (λ (y : ℕ). apart (q * u) n ≤ apart (y * u) n) (sym same) (omega arith), λ e ne. absurd (ne same))
            ]
      ]

-- ---- n / c rounded to p digits, against any number y * 2 ^ j of p digits

-- p - 1 digits and more are there where a digit was dropped
full : (z p : ℕ) → 0 < p → 0 < z - p → p - 1 + (z - p) < z
full z p P h = omega arith

module _ (p n c : ℕ) (P : 0 < p) (C : 0 < c) where
  abbrev units : ℕ
  units = c * 2 ^ drop p n c

  abbrev pub rounded : ℕ
  rounded = kept p n c * 2 ^ drop p n c

  units-pos : 0 < c * 2 ^ drop p n c
  units-pos = mul-pos C (pow_pos (drop p n c))

  is-closest : Closest n (c * 2 ^ drop p n c) (kept p n c)
  is-closest = closest-is n (c * 2 ^ drop p n c) units-pos

  in-units : (z k : ℕ) → z * 2 ^ k * c ≡ z * (c * 2 ^ k)
  in-units z k = mul_assoc z (2 ^ k) c ∙ ap (λ (x : ℕ). z * x) (mul_comm (2 ^ k) c)

  -- 2 ^ (p - 1) units reach no further than n, where digits were dropped
  pub reached : 0 < drop p n c → 2 ^ (p - 1) * (c * 2 ^ drop p n c) ≤ n
  reached h =
      let k = drop p n c in
      let l : 2 ^ (p - 1 + k) ≤ n / c = size_reaches (n / c) (p - 1 + k) (full (size (n / c)) p P h) in
      le_trans (native.Mathlib.Nat.le_of_eq (sym (in-units (2 ^ (p - 1)) k) ∙ ap (λ (x : ℕ). x * c) (sym (pow-add 2 (p - 1) k))))
      ((le-div_iff_mul-le C).0 l)

  module _ (y j : ℕ) (Y : y < 2 ^ p) where
    abbrev Nearer : Type 0
    Nearer =
        (apart (rounded * c) n ≤ apart (y * 2 ^ j * c) n)
        × (apart (rounded * c) n ≡ apart (y * 2 ^ j * c) n → y * 2 ^ j ≢ rounded → kept p n c % 2 ≡ 0)

    -- a multiple of 2 ^ k
    coarse : drop p n c ≤ j → Nearer
    coarse h =
        let k = drop p n c in
        let z = y * 2 ^ (j - k) in
        let s : j - k + k ≡ j = omega arith in
        let e : z * 2 ^ k ≡ y * 2 ^ j = mul_assoc y (2 ^ (j - k)) (2 ^ k) ∙ ap (λ (x : ℕ). y * x) (sym (pow-add 2 (j - k) k) ∙ ap (λ (x : ℕ). 2 ^ x) s) in
        let g : rounded * c ≡ kept p n c * (c * 2 ^ k) = in-units (kept p n c) k in
        let f : y * 2 ^ j * c ≡ z * (c * 2 ^ k) = ap (λ (x : ℕ). x * c) (sym e) ∙ in-units z k in
        let m = nearest-multiple n (c * 2 ^ k) (kept p n c) z is-closest in (
          subst (λ (x : ℕ). apart x n ≤ apart (y * 2 ^ j * c) n) (sym g) (subst (λ (x : ℕ). apart (kept p n c * (c * 2 ^ k)) n ≤ apart x n) (sym f) m.0),
          λ a ne. m.1 (ap (λ (x : ℕ). apart x n) (sym g) ∙ a ∙ ap (λ (x : ℕ). apart x n) f) (λ b. ne (sym e ∙ ap (λ (x : ℕ). x * 2 ^ k) b)),
        )

    -- fewer places than k: below 2 ^ (p - 1) units, which reach no further than n
    fine : j < drop p n c → Nearer
    fine h =
        let k = drop p n c in
        let l : y * 2 ^ j < 2 ^ (p - 1 + k) = lt-pow (y * 2 ^ j) (p + j) (p - 1 + k) (shl_lt p j Y) (omega arith) in
        let b : y * 2 ^ j * c < 2 ^ (p - 1) * (c * 2 ^ k) = subst (λ (x : ℕ). y * 2 ^ j * c < x) (ap (λ (x : ℕ). x * c)
        (pow-add 2 (p - 1) k) ∙ in-units (2 ^ (p - 1)) k) (mul-lt-mul_of_pos_right l C) in
        let r : 2 ^ (p - 1) * (c * 2 ^ k) ≤ n = reached (omega arith) in
        let g : rounded * c ≡ kept p n c * (c * 2 ^ k) = in-units (kept p n c) k in
        let m = (nearest-multiple n (c * 2 ^ k) (kept p n c) (2 ^ (p - 1)) is-closest).0 in
        let t = strictly (y * 2 ^ j * c) (2 ^ (p - 1) * (c * 2 ^ k)) n b r in (
          subst (λ (x : ℕ). apart x n ≤ apart (y * 2 ^ j * c) n) (sym g) (omega arith),
          λ a ne. absurd (further (apart (kept p n c * (c * 2 ^ k)) n) (apart (2 ^ (p - 1) * (c * 2 ^ k)) n) (apart
              (y * 2 ^ j * c) n) m t (ap (λ (x : ℕ). apart x n) (sym g) ∙ a)),
        )
      where
        lt-pow : (a i m : ℕ) → a < 2 ^ i → i ≤ m → a < 2 ^ m
        lt-pow a i m h l = native.Mathlib.Nat.lt_of_lt_of_le h (pow_mono l)

        strictly : (a b n : ℕ) → a < b → b ≤ n → apart b n < apart a n
        strictly a b n h l = omega arith

        further : (a b d : ℕ) → a ≤ b → b < d → a ≡ d → ⊥
        further a b d h l e = omega arith

    pub nearest-rounded : Nearer
    nearest-rounded =
        elim (dec_lt j (drop p n c)) [
          | yes h ↦ fine h
          | no h ↦ coarse (omega arith)
        ]
