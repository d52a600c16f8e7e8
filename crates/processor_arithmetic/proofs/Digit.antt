-- The laws of specs/Digit, proved.
use Rattle.std.proofs.Common.{◌≡◌, ℕ, zero, suc, ◌+◌, ◌-◌, ◌*◌, ◌/◌, ◌%◌, ◌^◌, ◌<◌, ◌≤◌, min, max, ap, ◌∙◌, mul-le-mul_right, mod-lt, mul_comm, arith, pow_pos, pow-add, shr_lt}
use native.Mathlib.Nat.{mul-sub}
use lib.Pow.{split, ones_split, high}
use lib.Bits.{bit_and, bit_or, bit_xor, differ, and_shr, or_shr, xor_shr, and_step, or_step, xor_step}
use Rattle.processor_arithmetic.specs.Bitwise.{and_of, or_of, xor_of, not_of}
use Rattle.processor_arithmetic.specs.Digit.{Complement, AndBit, OrBit, XorBit, NotBit}

-- the lowest bit of what a step leaves
lowest : (x m : ℕ) → m < 2 → (x * 2 + m) % 2 ≡ m
lowest x m h = omega arith

lesser : (a b : ℕ) → min (a % 2) (b % 2) < 2
lesser a b = omega arith

greater : (a b : ℕ) → max (a % 2) (b % 2) < 2
greater a b = omega arith

differ-sum : (x y : ℕ) → x < 2 → y < 2 → differ x y ≡ (x + y) % 2
differ-sum zero y hx hy = omega arith
differ-sum (suc x) zero hx hy = omega arith
differ-sum (suc x) (suc y) hx hy = differ-sum x y (omega arith) (omega arith) ∙ omega arith

last-and : (a b : ℕ) → bit_and a b % 2 ≡ min (a % 2) (b % 2)
last-and a b = ap (λ (n : ℕ). n % 2) (and_step a b) ∙ lowest (bit_and (a / 2) (b / 2)) (min (a % 2) (b % 2)) (lesser a b)

last_or : (a b : ℕ) → bit_or a b % 2 ≡ max (a % 2) (b % 2)
last_or a b = ap (λ (n : ℕ). n % 2) (or_step a b) ∙ lowest (bit_or (a / 2) (b / 2)) (max (a % 2) (b % 2)) (greater a b)

last-xor : (a b : ℕ) → bit_xor a b % 2 ≡ (a % 2 + b % 2) % 2
last-xor a b =
    let d : differ (a % 2) (b % 2) ≡ (a % 2 + b % 2) % 2 = differ-sum (a % 2) (b % 2) (omega arith) (omega arith) in
    ap (λ (n : ℕ). n % 2) (xor_step a b ∙ ap (λ (n : ℕ). bit_xor (a / 2) (b / 2) * 2 + n) d)
    ∙ lowest (bit_xor (a / 2) (b / 2)) ((a % 2 + b % 2) % 2) (omega arith)

pub complement : Complement
complement a j k h =
    let q = a / 2 ^ k in
    let hr : a % 2 ^ k < 2 ^ k = mod-lt a (pow_pos k) in
    let hq : a / 2 ^ k ≤ 2 ^ j - 1 = omega (arith, shr_lt j k h) in
    let le : a / 2 ^ k * 2 ^ k ≤ (2 ^ j - 1) * 2 ^ k = mul-le-mul_right (2 ^ k) hq in
    let e : (2 ^ j - 1 - a / 2 ^ k) * 2 ^ k ≡ 2 ^ k * (2 ^ j - 1) - 2 ^ k * (a / 2 ^ k) =
    mul_comm (2 ^ j - 1 - q) (2 ^ k) ∙ mul-sub (2 ^ k) (2 ^ j - 1) q
    in
    omega (arith, ones_split j k, split a k, mul_comm (2 ^ k) (2 ^ j - 1), mul_comm (2 ^ k) q)

flip : (p q : ℕ) → q < 2 * p → (2 * p - 1 - q) % 2 ≡ 1 - q % 2
flip p q h = omega arith

not-parts : (b j k n : ℕ) → 1 + j + k ≡ n → b < 2 ^ n → (2 ^ n - 1 - b) / 2 ^ k % 2 ≡ 1 - b / 2 ^ k % 2
not-parts b j k n s h =
    let g : b < 2 ^ (1 + j + k) = rw s h in
    let p : 2 ^ (1 + j) ≡ 2 * 2 ^ j = pow-add 2 1 j in
    let hr : 2 ^ k - 1 - b % 2 ^ k < 2 ^ k = omega (arith, mod-lt b (pow_pos k)) in
    let hq : b / 2 ^ k < 2 * 2 ^ j = rw (← p) (shr_lt (1 + j) k g) in
    rw (← s)
    (ap (λ (x : ℕ). x / 2 ^ k % 2) (complement b (1 + j) k g)
    ∙ ap (λ (x : ℕ). x % 2) (high (2 ^ (1 + j) - 1 - b / 2 ^ k) k hr)
    ∙ ap (λ (x : ℕ). (x - 1 - b / 2 ^ k) % 2) p
    ∙ flip (2 ^ j) (b / 2 ^ k) hq)

pub and-bit : AndBit
unfolding and_of
and-bit a b psw k = ap (λ (n : ℕ). n % 2) (and_shr a b k) ∙ last-and (a / 2 ^ k) (b / 2 ^ k)

pub or-bit : OrBit
unfolding or_of
or-bit a b psw k = ap (λ (n : ℕ). n % 2) (or_shr a b k) ∙ last_or (a / 2 ^ k) (b / 2 ^ k)

pub xor-bit : XorBit
unfolding xor_of
xor-bit a b psw k = ap (λ (n : ℕ). n % 2) (xor_shr a b k) ∙ last-xor (a / 2 ^ k) (b / 2 ^ k)

pub not-bit : NotBit
unfolding not_of
not-bit b psw k hb hk = not-parts b (31 - k) k 32 (omega arith) hb
