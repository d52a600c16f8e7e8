-- Sign extension by an exclusive or with the sign's place.
use Rattle.std.proofs.Common.{◌≡◌, ℕ, ◌+◌, ◌-◌, ◌*◌, ◌/◌, ◌%◌, ◌^◌, ◌<◌, ◌≤◌, sym, refl, ap, ◌∙◌, mod-eq_of_lt, arith, pow_mono, le-ltb, lt-ltb}
use native.Mathlib.Decide.{dec_lt}
use lib.Bits.{bit_xor, xor_comm, xor_shifted, xor_block, xor_zero_r}
use Rattle.word.specs.Extend.{extend_of}

-- below the sign's place, and from it on
xor_low : (k x : ℕ) → x < 2 ^ k → bit_xor x (2 ^ k) ≡ x + 2 ^ k
xor_low k x h =
    let e : 1 * 2 ^ k ≡ 2 ^ k = omega arith in
    xor_comm x (2 ^ k) ∙ (rw e at (xor_shifted 1 k x h)) ∙ omega arith

xor-high : (k x : ℕ) → 2 ^ k ≤ x → x < 2 * 2 ^ k → bit_xor x (2 ^ k) ≡ x - 2 ^ k
xor-high k x a h =
    let e : 1 * 2 ^ k + (x - 2 ^ k) ≡ x = omega arith in
    let z : 1 * 2 ^ k + 0 ≡ 2 ^ k = omega arith in
    let low : x - 2 ^ k < 2 ^ k = omega arith in
    let zero : 0 < 2 ^ k = omega arith in
    (rw (e, z) at (xor_block k 1 1 (x - 2 ^ k) 0 low zero)) ∙ rw (xor_zero_r (x - 2 ^ k)) (omega arith)

-- a sum that wraps, undone
unwrap-low : (r p y : ℕ) → r < 2 ^ 32 → p ≤ y → y < 2 ^ 32 → (r + p) % 2 ^ 32 ≡ y → p ≤ 2 ^ 31 → r + p ≡ y
unwrap-low r p y hr h hy e hp =
    elim (dec_lt (r + p) (2 ^ 32)) [
      | yes l ↦ sym (mod-eq_of_lt l) ∙ e
      | no l ↦ absurd (omega arith)
    ]

unwrap-high : (r p y : ℕ) → r < 2 ^ 32 → y < p → (r + p) % 2 ^ 32 ≡ y → p ≤ 2 ^ 31 → r + p ≡ y + 2 ^ 32
unwrap-high r p y hr h e hp =
    elim (dec_lt (r + p) (2 ^ 32)) [
      | yes l ↦ absurd (omega (arith, mod-eq_of_lt l))
      | no l ↦
          let k : (r + p) / 2 ^ 32 ≡ 1 = omega arith in
          omega arith
    ]

pub extend-xor : (k x r : ℕ) → k < 32 → x < 2 * 2 ^ k → r < 2 ^ 32 → (r + 2 ^ k) % 2 ^ 32 ≡ bit_xor x (2 ^ k) → r ≡ extend_of (2 ^ k) x
unfolding extend_of
extend-xor k x r hk h hr e =
    let half : 2 ^ k ≤ 2 ^ 31 = pow_mono {i = k} {j = 31} (omega arith) in
    elim (dec_lt x (2 ^ k)) [
      | yes l ↦ simp (lt-ltb x (2 ^ k) l) (omega (arith, unwrap-low r (2 ^ k) (x + 2 ^ k) hr (omega arith) (omega arith) (e ∙ xor_low k x l) half))
      | no l ↦
          let g : 2 ^ k ≤ x = omega arith in
          simp (le-ltb x (2 ^ k) g) (omega (arith, unwrap-high r (2 ^ k) (x - 2 ^ k) hr (omega arith) (e ∙ xor-high k x g h) half))
    ]
