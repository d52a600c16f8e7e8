-- A pixel painted without a branch: two bits at their place, a pair under its mask, a test of a pair, and what a value
-- leaves of a column and adds to it. Assumes nothing.
use Prim.Native.Nat.{ℕ, zero, suc, ◌+◌, ◌-◌, ◌*◌, ◌/◌, ◌%◌, ◌^◌, ◌<◌, ◌≤◌}
use native.Mathlib.Nat as NatL
use native.Mathlib.Omega.{arith}
use borrow.Author.Tests.{ne_eqb}
use mathlib.Core.Bool.{Bool, true, false}
use mathlib.Core.Path.{◌≡◌, refl, sym, ap, ◌∙◌}
use lib.Dec.{eqb}
use lib.Bits.{bit_and, bit_or, and_high, and_zero_r, or_zero_l, or_zero_r, or_lt}
use Rattle.word.specs.Choose.{pick}
use Rattle.word.proofs.Choices.{equal-same}
use Rattle.drawing_pixel.specs.Character.{two_bits_of, shade_of}
use Rattle.drawing_pixel.specs.inner.Buffer.{with_pair_of, repainted_of}
use Rattle.drawing_pixel.proofs.Pairs.{below-eight, pair_lt, with-pair-self}
use Rattle.drawing_pixel.proofs.Small.{shade-small}

-- two bits at their place fit a halfword
pub placed_same : (v : ℕ) → v < 4 → (r : ℕ) → r < 8 → (v * 2 ^ (2 * r)) % 65536 ≡ v * 2 ^ (2 * r)
placed_same v h =
    below-eight (λ r. (v * 2 ^ (2 * r)) % 65536 ≡ v * 2 ^ (2 * r))
    (omega arith) (omega arith) (omega arith) (omega arith) (omega arith) (omega arith) (omega arith) (omega arith)

-- the pair of a halfword under the mask of its place
pub pair-masked : (h r : ℕ) → r < 8 → bit_and h (3 * 2 ^ (2 * r)) ≡ two_bits_of h r * 2 ^ (2 * r)
unfolding two_bits_of
pair-masked h =
    below-eight (λ r. bit_and h (3 * 2 ^ (2 * r)) ≡ h / 2 ^ (2 * r) % 4 * 2 ^ (2 * r))
    (and_high h 2 0) (and_high h 2 2) (and_high h 2 4) (and_high h 2 6) (and_high h 2 8) (and_high h 2 10) (and_high h 2 12) (and_high h 2 14)

-- the unit of a place, and its multiples
pub unit-small : (p : ℕ) → p < 8 → 2 ^ (2 * p) ≤ 16384
unit-small = below-eight (λ p. 2 ^ (2 * p) ≤ 16384)
    (omega arith) (omega arith) (omega arith) (omega arith) (omega arith) (omega arith) (omega arith) (omega arith)

pub unit-times : (n : ℕ) → n < 4 → (p : ℕ) → p < 8 → n * 2 ^ (2 * p) < 65536
unit-times n h =
    below-eight (λ p. n * 2 ^ (2 * p) < 65536)
    (omega arith) (omega arith) (omega arith) (omega arith) (omega arith) (omega arith) (omega arith) (omega arith)

times-same : (u v n : ℕ) → 0 < u → eqb (v * u) (n * u) ≡ eqb v n
times-same u v n h = equal-same (v * u) (n * u) v n (NatL.eq_of_mul-eq-mul_right u h v n) (λ e. ap (λ m. m * u) e)

unit-above : (p : ℕ) → p < 8 → 0 < 2 ^ (2 * p)
unit-above = below-eight (λ p. 0 < 2 ^ (2 * p))
    (omega arith) (omega arith) (omega arith) (omega arith) (omega arith) (omega arith) (omega arith) (omega arith)

-- a pair is tested in its place
pub pair-tested : (f n p : ℕ) → p < 8 → eqb (bit_and f (3 * 2 ^ (2 * p))) (n * 2 ^ (2 * p)) ≡ eqb (two_bits_of f p) n
pair-tested f n p l = rw (pair-masked f p l) (times-same (2 ^ (2 * p)) (two_bits_of f p) n (unit-above p l))

-- one of three, by the value
pub one_of_three : (p v : ℕ) → v < 4
    → bit_or (bit_or (pick (eqb v 1) (two_bits_of p 1) 0) (pick (eqb v 2) (two_bits_of p 2) 0)) (pick (eqb v 3) (two_bits_of p 3) 0)
    ≡ pick (eqb v 0) 0 (two_bits_of p v)
one_of_three p zero h = refl
one_of_three p (suc zero) h = or_zero_r _ ∙ or_zero_r _
one_of_three p (suc (suc zero)) h = or_zero_r _ ∙ or_zero_l _
one_of_three p (suc (suc (suc zero))) h = or_zero_l _
one_of_three p (suc (suc (suc (suc v)))) h = absurd (omega arith)

pub three-small : (a b c : ℕ) → a < 4 → b < 4 → c < 4 → bit_or (bit_or a b) c < 4
three-small a b c h k l = or_lt 2 (bit_or a b) c (or_lt 2 a b h k) l

-- what is left of a column
pub kept-of : (h r : ℕ) (b : Bool) → r < 8 → h - bit_and h (pick b 0 3 * 2 ^ (2 * r)) ≡ pick b h (h - two_bits_of h r * 2 ^ (2 * r))
kept-of h r true l = let e : bit_and h (0 * 2 ^ (2 * r)) ≡ 0 = ap (bit_and h) (NatL.zero-mul (2 ^ (2 * r))) ∙ and_zero_r h in omega arith
kept-of h r false l = ap (λ x. h - x) (pair-masked h r l)

-- a pair taken out and another put in
with-pair-sum : (h r v : ℕ) → h - two_bits_of h r * 2 ^ (2 * r) + v * 2 ^ (2 * r) ≡ with_pair_of h r v
unfolding with_pair_of
with-pair-sum h r v = refl

-- .. and, with what it adds, the column repainted
pub repainted-sum : (h r p v : ℕ) → r < 8
    → pick (eqb v 0) h (h - two_bits_of h r * 2 ^ (2 * r)) + pick (eqb v 0) 0 (two_bits_of p v) * 2 ^ (2 * r) ≡ repainted_of r (shade_of p v) h
unfolding repainted_of shade_of
repainted-sum h r p zero l = let e : h + 0 * 2 ^ (2 * r) ≡ h = omega (arith, NatL.zero-mul (2 ^ (2 * r))) in e ∙ sym (with-pair-self h r l)
repainted-sum h r p (suc v) l = simp (ne_eqb (suc v) 0 (λ e. omega arith)) (with-pair-sum h r (two_bits_of p (suc v)))

with-pair-fits : (h v : ℕ) → h < 65536 → v < 4 → (r : ℕ) → r < 8 → with_pair_of h r v < 65536
unfolding with_pair_of two_bits_of
with-pair-fits h v b s =
    below-eight (λ r. h - h / 2 ^ (2 * r) % 4 * 2 ^ (2 * r) + v * 2 ^ (2 * r) < 65536)
    (omega arith) (omega arith) (omega arith) (omega arith) (omega arith) (omega arith) (omega arith) (omega arith)

pub repainted-fits : (h r p v : ℕ) → h < 65536 → r < 8 → repainted_of r (shade_of p v) h < 65536
unfolding repainted_of
repainted-fits h r p v b l = with-pair-fits h _ b (shade-small p v _ (pair_lt h r)) r l
