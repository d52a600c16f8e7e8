-- The laws of pairs of bits in a halfword (`two_bits_of`, `with_pair_of`, `repainted_of`): a pair that was put is read back, and no
-- other one changes. Each is shown at every place 0 to 7 by linear arithmetic. Assumes nothing.
use Prim.Native.Nat.{ℕ, zero, suc, ◌+◌, ◌-◌, ◌*◌, ◌/◌, ◌%◌, ◌^◌, ◌<◌}
use native.Mathlib.Omega.{arith}
use mathlib.Core.Path.{◌≡◌}
use Rattle.drawing_pixel.specs.Character.{two_bits_of, pixel_value_of}
use Rattle.drawing_pixel.specs.inner.Buffer.{with_pair_of, repainted_of}

-- what holds at 0 to 7 holds below 8
pub below-eight : (P : ℕ → Type 0) → P 0 → P 1 → P 2 → P 3 → P 4 → P 5 → P 6 → P 7 → (k : ℕ) → k < 8 → P k
below-eight P a b c d e f g h zero l = a
below-eight P a b c d e f g h (suc zero) l = b
below-eight P a b c d e f g h (suc (suc zero)) l = c
below-eight P a b c d e f g h (suc (suc (suc zero))) l = d
below-eight P a b c d e f g h (suc (suc (suc (suc zero)))) l = e
below-eight P a b c d e f g h (suc (suc (suc (suc (suc zero))))) l = f
below-eight P a b c d e f g h (suc (suc (suc (suc (suc (suc zero)))))) l = g
below-eight P a b c d e f g h (suc (suc (suc (suc (suc (suc (suc zero))))))) l = h
below-eight P a b c d e f g h (suc (suc (suc (suc (suc (suc (suc (suc k)))))))) l = absurd (omega arith)

pub pair_lt : (h k : ℕ) → two_bits_of h k < 4
unfolding two_bits_of
pair_lt h k = omega arith

pub value-small : (cell row column : ℕ) → pixel_value_of cell row column < 4
unfolding pixel_value_of
value-small cell row column = pair_lt row _

-- a pair that was put is read back
pub pair-with-same : (h v : ℕ) → v < 4 → (k : ℕ) → k < 8 → two_bits_of (with_pair_of h k v) k ≡ v
unfolding with_pair_of two_bits_of
pair-with-same h v s =
    below-eight (λ k. (h - h / 2 ^ (2 * k) % 4 * 2 ^ (2 * k) + v * 2 ^ (2 * k)) / 2 ^ (2 * k) % 4 ≡ v)
    (omega arith) (omega arith) (omega arith) (omega arith) (omega arith) (omega arith) (omega arith) (omega arith)

-- a pair put where it was changes nothing
pub with-pair-self : (h k : ℕ) → k < 8 → with_pair_of h k (two_bits_of h k) ≡ h
unfolding with_pair_of two_bits_of
with-pair-self h =
    below-eight (λ k. h - h / 2 ^ (2 * k) % 4 * 2 ^ (2 * k) + h / 2 ^ (2 * k) % 4 * 2 ^ (2 * k) ≡ h)
    (omega arith) (omega arith) (omega arith) (omega arith) (omega arith) (omega arith) (omega arith) (omega arith)

-- the same pair of two halfwords that differ only at another place, for each place that was put
other_at : ℕ → ℕ → ℕ → ℕ → Type 0
other_at h v k s =
    (s ≡ k → ⊥)
    → (h - h / 2 ^ (2 * k) % 4 * 2 ^ (2 * k) + v * 2 ^ (2 * k)) / 2 ^ (2 * s) % 4 ≡ h / 2 ^ (2 * s) % 4

other-0 : (h v : ℕ) → v < 4 → (s : ℕ) → s < 8 → other_at h v 0 s
unfolding other_at
other-0 h v b =
    below-eight (other_at h v 0)
    (omega arith) (omega arith) (omega arith) (omega arith) (omega arith) (omega arith) (omega arith) (omega arith)

other-1 : (h v : ℕ) → v < 4 → (s : ℕ) → s < 8 → other_at h v 1 s
unfolding other_at
other-1 h v b =
    below-eight (other_at h v 1)
    (omega arith) (omega arith) (omega arith) (omega arith) (omega arith) (omega arith) (omega arith) (omega arith)

other-2 : (h v : ℕ) → v < 4 → (s : ℕ) → s < 8 → other_at h v 2 s
unfolding other_at
other-2 h v b =
    below-eight (other_at h v 2)
    (omega arith) (omega arith) (omega arith) (omega arith) (omega arith) (omega arith) (omega arith) (omega arith)

other-3 : (h v : ℕ) → v < 4 → (s : ℕ) → s < 8 → other_at h v 3 s
unfolding other_at
other-3 h v b =
    below-eight (other_at h v 3)
    (omega arith) (omega arith) (omega arith) (omega arith) (omega arith) (omega arith) (omega arith) (omega arith)

other-4 : (h v : ℕ) → v < 4 → (s : ℕ) → s < 8 → other_at h v 4 s
unfolding other_at
other-4 h v b =
    below-eight (other_at h v 4)
    (omega arith) (omega arith) (omega arith) (omega arith) (omega arith) (omega arith) (omega arith) (omega arith)

other-5 : (h v : ℕ) → v < 4 → (s : ℕ) → s < 8 → other_at h v 5 s
unfolding other_at
other-5 h v b =
    below-eight (other_at h v 5)
    (omega arith) (omega arith) (omega arith) (omega arith) (omega arith) (omega arith) (omega arith) (omega arith)

other-6 : (h v : ℕ) → v < 4 → (s : ℕ) → s < 8 → other_at h v 6 s
unfolding other_at
other-6 h v b =
    below-eight (other_at h v 6)
    (omega arith) (omega arith) (omega arith) (omega arith) (omega arith) (omega arith) (omega arith) (omega arith)

other-7 : (h v : ℕ) → v < 4 → (s : ℕ) → s < 8 → other_at h v 7 s
unfolding other_at
other-7 h v b =
    below-eight (other_at h v 7)
    (omega arith) (omega arith) (omega arith) (omega arith) (omega arith) (omega arith) (omega arith) (omega arith)

-- no other pair changes
pub pair-with-other : (h v : ℕ) → v < 4 → (k : ℕ) → k < 8 → (s : ℕ) → s < 8 → (s ≡ k → ⊥) → two_bits_of (with_pair_of h k v) s ≡ two_bits_of h s
unfolding with_pair_of two_bits_of other_at
pair-with-other h v b =
    below-eight (λ k. (s : ℕ) → s < 8 → other_at h v k s)
    (other-0 h v b) (other-1 h v b) (other-2 h v b) (other-3 h v b) (other-4 h v b) (other-5 h v b) (other-6 h v b) (other-7 h v b)

-- a row that was repainted, and any other row
pub pair-repainted-same : (r : ℕ) (f : ℕ → ℕ) (h : ℕ) → r < 8 → f (two_bits_of h r) < 4 → two_bits_of (repainted_of r f h) r ≡ f (two_bits_of h r)
unfolding repainted_of
pair-repainted-same r f h s b = pair-with-same h (f (two_bits_of h r)) b r s

pub pair-repainted-other : (r : ℕ) (f : ℕ → ℕ) (h s : ℕ) → r < 8 → s < 8 → (s ≡ r → ⊥) → f (two_bits_of h r) < 4
    → two_bits_of (repainted_of r f h) s ≡ two_bits_of h s
unfolding repainted_of
pair-repainted-other r f h s a b n l = pair-with-other h (f (two_bits_of h r)) l r a s b n

-- a row that keeps its pair
pub repainted-self : (r : ℕ) (f : ℕ → ℕ) (h : ℕ) → r < 8 → f (two_bits_of h r) ≡ two_bits_of h r → repainted_of r f h ≡ h
unfolding repainted_of
repainted-self r f h s e = rw e (with-pair-self h r s)
