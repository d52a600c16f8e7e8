-- The library's reversal of bits, which puts the reversed bits after those of a number, how large they are, and reversal by
-- halves: the low 2 * k bits are reversed by reversing each half and exchanging them. Assumes nothing.
use Rattle.std.proofs.Common.{◌≡◌, ℕ, zero, suc, ◌+◌, ◌-◌, ◌*◌, ◌/◌, ◌%◌, ◌^◌, ◌<◌, ◌≤◌, sym, refl, ap, ◌∙◌, subst, mul_assoc, add-mul, suc-add, zero-add, zero-mul, div-one, add-one, one-add, arith, pow-add, shr-shr}
use native.Mathlib.Decide.{dec_lt}
use native.Mathlib.Nat.{pow-succ'}
use lib.Pow.{mod-mod-pow, field}
use Rattle.std.specs.Int.{reverse_bits_onto}
use Rattle.processor_float.specs.Nintendo.{reversed_of}

pub reversed_onto : (n x a : ℕ) → reverse_bits_onto n x a ≡ a * 2 ^ n + reversed_of n x
unfolding reverse_bits_onto reversed_of
reversed_onto zero x a = omega arith
reversed_onto (suc n) x a = reversed_onto n (x / 2) (a * 2 + x % 2) ∙ rw (pow-succ' 2 n) (omega arith)

pub reversed-small : (n x : ℕ) → reversed_of n x < 2 ^ n
unfolding reversed_of
reversed-small zero x = omega arith
reversed-small (suc n) x =
    let h = reversed-small n (x / 2) in
    let p : 2 ^ suc n ≡ 2 * 2 ^ n = pow-succ' 2 n in
    let b : x % 2 < 2 = omega arith in
    elim (dec_lt (x % 2) 1) [
      | yes z ↦
          let e : x % 2 ≡ 0 = omega arith in
          subst (λ (r : ℕ). r * 2 ^ n + reversed_of n (x / 2) < 2 ^ suc n) (sym e) (omega arith)
      | no z ↦
          let e : x % 2 ≡ 1 = omega arith in
          subst (λ (r : ℕ). r * 2 ^ n + reversed_of n (x / 2) < 2 ^ suc n) (sym e) (omega arith)
    ]

-- only the low n bits count
low_bits : (n x : ℕ) → reversed_of n (x % 2 ^ n) ≡ reversed_of n x
unfolding reversed_of
low_bits zero x = refl
low_bits (suc n) x =
    let p : 2 ^ suc n ≡ 2 * 2 ^ n = pow-succ' 2 n in
    let bit : x % 2 ^ suc n % 2 ≡ x % 2 = ap (λ (k : ℕ). x % 2 ^ k % 2) (sym (add-one n)) ∙ mod-mod-pow x n 1 in
    let rest : x % 2 ^ suc n / 2 ≡ x / 2 % 2 ^ n = ap (λ (k : ℕ). x % 2 ^ k / 2) (sym (add-one n)) ∙ field x n 1 in
    ap (λ (b : ℕ). b * 2 ^ n + reversed_of n (x % 2 ^ suc n / 2)) bit
    ∙ ap (λ (y : ℕ). x % 2 * 2 ^ n + reversed_of n y) rest
    ∙ ap (λ (y : ℕ). x % 2 * 2 ^ n + y) (low_bits n (x / 2))

-- the low n bits, then k more
parts : (n k x : ℕ) → reversed_of (n + k) x ≡ reversed_of n x * 2 ^ k + reversed_of k (x / 2 ^ n)
unfolding reversed_of
parts zero k x =
    ap (λ (m : ℕ). reversed_of m x) (zero-add k)
    ∙ sym
    (ap (λ (m : ℕ). m + reversed_of k (x / 1)) (zero-mul (2 ^ k))
    ∙ zero-add (reversed_of k (x / 1))
    ∙ ap (reversed_of k) (div-one x))
parts (suc n) k x =
    let a = x % 2 in
    let h = parts n k (x / 2) in
    let s : x / 2 / 2 ^ n ≡ x / 2 ^ suc n = shr-shr x 1 n ∙ ap (λ (m : ℕ). x / 2 ^ m) (one-add n) in
    let d : (x % 2 * 2 ^ n + reversed_of n (x / 2)) * 2 ^ k ≡ x % 2 * 2 ^ (n + k) + reversed_of n (x / 2) * 2 ^ k =
    add-mul (a * 2 ^ n) (reversed_of n (x / 2)) (2 ^ k)
    ∙ ap (λ (m : ℕ). m + reversed_of n (x / 2) * 2 ^ k) (mul_assoc a (2 ^ n) (2 ^ k) ∙ ap (λ (m : ℕ). a * m) (sym (pow-add 2 n k)))
    in
    let t : reversed_of k (x / 2 / 2 ^ n) ≡ reversed_of k (x / 2 ^ suc n) = ap (reversed_of k) s in
    ap (λ (m : ℕ). reversed_of m x) (suc-add n k) ∙ omega arith

pub halves : (k x : ℕ) → reversed_of k (x % 2 ^ k) * 2 ^ k + reversed_of k (x / 2 ^ k) ≡ reversed_of (k + k) x
halves k x = ap (λ (m : ℕ). m * 2 ^ k + reversed_of k (x / 2 ^ k)) (low_bits k x) ∙ sym (parts k k x)
