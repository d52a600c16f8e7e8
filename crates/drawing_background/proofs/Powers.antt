-- What the machine's shifts and masks by the size of a background are as powers of two. Assumes nothing.
use Rattle.std.proofs.Common.{◌≡◌, ℕ, zero, suc, ◌-◌, ◌*◌, ◌%◌, ◌^◌, ◌<◌, ◌≤◌, lt_of_le_of_lt, le_of_lt, mod-lt, mod-eq_of_lt, mul-le-mul_left, mul-lt-mul_of_pos_right, one-mul, arith, lit<, pow_pos, pow_mono}
use lib.Bits.{bit_and, and_mask}
use lib.Pow.{pow-lt}

-- the size of a background of at most eight maps a side, in cells
pub cells-le : (k : ℕ) → k < 10 → 2 ^ k ≤ 512
cells-le k h = pow_mono {i = k} {j = 9} (omega arith)

-- a number below 8 shifted by an exponent below 4
pub shifted-maps : (r : ℕ) → r < 8 → (k : ℕ) → k < 4 → ((r * 2 ^ k) % 2 ^ 64 ≡ r * 2 ^ k) × (r * 2 ^ k < 64)
shifted-maps r h zero l = (omega arith, omega arith)
shifted-maps r h (suc zero) l = (omega arith, omega arith)
shifted-maps r h (suc (suc zero)) l = (omega arith, omega arith)
shifted-maps r h (suc (suc (suc zero))) l = (omega arith, omega arith)
shifted-maps r h (suc (suc (suc (suc k)))) l = absurd (omega arith)

-- one shifted by an exponent below 64
pub shifted_one : (k : ℕ) → k < 64 → (1 * 2 ^ k) % 2 ^ 64 ≡ 2 ^ k
shifted_one k h = rw (one-mul (2 ^ k)) (mod-eq_of_lt (pow-lt h))

pub one-le-power : (k : ℕ) → 1 ≤ 2 ^ k
one-le-power k = pow_pos k

-- a mask of k ones keeps the remainder by 2 ^ k
pub masked : (u k : ℕ) → k < 64 → bit_and u ((1 * 2 ^ k) % 2 ^ 64 - 1) ≡ u % 2 ^ k
masked u k h = rw (shifted_one k h) (and_mask u k)

-- .. which is below 512 for k up to 9
pub low-lt : (u k : ℕ) → k < 10 → u % 2 ^ k < 512
low-lt u k h = let l : u % 2 ^ k < 2 ^ k = mod-lt u (pow_pos k) in let m : 2 ^ k ≤ 2 ^ 9 = pow_mono {i = k} {j = 9} (omega arith) in omega arith

-- a product of two halfwords is below 2 ^ 32
pub product_lt : (a b : ℕ) → a < 65536 → b < 65536 → a * b < 4294967296
product_lt a b h l = lt_of_le_of_lt (mul-le-mul_left a (le_of_lt l)) (mul-lt-mul_of_pos_right h (lit< tt))
