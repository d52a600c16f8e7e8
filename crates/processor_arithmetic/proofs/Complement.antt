-- The two's complement of a whole number: it is below its range, reads signed as the number that it was made of, and is
-- the number that was read.
use Rattle.std.proofs.Common.{◌≡◌, ℕ, suc, ◌-◌, ◌*◌, ◌%◌, ◌^◌, ◌<◌, ◌≤◌, ℤ, pos, negsuc, mod-lt, mod-eq_of_lt, arith, le-ltb, lt-ltb}
use native.Mathlib.Decide.{dec_lt}
use lib.Signed.{mag}
use Rattle.word.specs.Extend.{signed_of}
use Rattle.processor_arithmetic.specs.Integer.{signed64, complement_of}
use Rattle.processor_arithmetic.proofs.Reading.{plain-reading, negative-reading}

-- a complement is below its range
pub complement-below : (range : ℕ) → 0 < range → (z : ℤ) → complement_of range z < range
complement-below range h (pos n) = mod-lt n h
complement-below range h (negsuc n) = omega arith

-- a whole number within the signed range comes back from its complement
pub signed-complement : (half : ℕ) (z : ℤ) → mag z < half → signed_of half (complement_of (2 * half) z) ≡ z
signed-complement half (pos n) h =
    let e : n % (2 * half) ≡ n = mod-eq_of_lt (omega arith) in
    rw e (plain-reading half n h)
signed-complement half (negsuc n) h =
    let e : n % (2 * half) ≡ n = mod-eq_of_lt (omega arith) in
    let k : 2 * half - 1 - n ≡ 2 * half - suc n = omega arith in
    rw (e, k) (negative-reading half (suc n) (omega arith) h)

-- a number of 64 bits comes back from its signed reading
pub complement-signed64 : (w : ℕ) → w < 2 ^ 64 → complement_of (2 ^ 64) (signed64 w) ≡ w
unfolding signed_of
complement-signed64 w h =
    elim (dec_lt w (2 ^ 63)) [
      | yes l ↦ simp (lt-ltb w (2 ^ 63) l) (omega arith)
      | no l ↦
          let g : 2 ^ 63 ≤ w = omega arith in
          simp (le-ltb w (2 ^ 63) g, lt-ltb w (2 ^ 64) h) (omega arith)
    ]
