-- The rows of the code's table of conditions are document 000's conditions: sixteen conditions at sixteen states of the
-- four flags, by one test that antt computes.
use Rattle.std.proofs.Common.{◌≡◌, ℕ, zero, suc, ◌+◌, ◌*◌, ◌/◌, ◌%◌, ◌^◌, ◌<◌, ◌≤◌, Bool, true, false, T, List, [], ◌∷◌, get_or, sym, refl, ap, ◌∙◌, arith}
use Rattle.word.specs.Bit.{is_set}
use Rattle.processor_arithmetic.specs.Condition.{condition_of}
use Rattle.processor_arithmetic.proofs.Finite.{every, at, same, same-eq}

unfoldable pub rows : List ℕ
rows =
    61680 ∷ 65280 ∷ 43690 ∷ 65450 ∷ 52428 ∷ 65535 ∷ 15420 ∷ 48830 ∷ 3855 ∷ 255 ∷ 21845 ∷ 85 ∷ 13107 ∷ 0 ∷ 50115 ∷ 16705 ∷ []

-- bit n of row c
row_bit : ℕ → ℕ → Bool
row_bit c n = is_set n (get_or rows c 0)

agrees : ℕ → ℕ → Bool
agrees c n = same (row_bit c n) (condition_of c n)

all-agree : T (every 16 (λ c. every 16 (λ n. agrees c n)))
unfolding rows row_bit agrees condition_of
all-agree = tt

-- a condition looks at four bits of PSW, and is named by four bits
low_bits : (c psw : ℕ) → condition_of c psw ≡ condition_of (c % 16) (psw % 16)
unfolding condition_of
low_bits c psw =
    let cy : psw / 8 % 2 ≡ psw % 16 / 8 % 2 = omega arith in
    let ov : psw / 4 % 2 ≡ psw % 16 / 4 % 2 = omega arith in
    let s : psw / 2 % 2 ≡ psw % 16 / 2 % 2 = omega arith in
    let z : psw / 1 % 2 ≡ psw % 16 / 1 % 2 = omega arith in
    let k : c % 16 ≡ c % 16 % 16 = omega arith in
    rw (← cy, ← ov, ← s, ← z, ← k)

-- a row's bits are its condition's
pub row-bits : (c : ℕ) → c < 16 → (n : ℕ) → n < 16 → is_set n (get_or rows c 0) ≡ condition_of c n
unfolding row_bit agrees
row-bits c hc n hn =
    let row = at 16 (λ c. every 16 (λ n. agrees c n)) all-agree c hc in
    same-eq (row_bit c n) (condition_of c n) (at 16 (λ n. agrees c n) row n hn)

pub condition-low : (c psw : ℕ) → condition_of (c % 16) (psw % 16) ≡ condition_of c psw
condition-low c psw = sym (low_bits c psw)

-- a number that is none of the first n reaches n
abbrev pub Apart : ℕ → ℕ → Type 0
Apart zero i = Unit {0}
Apart (suc n) i = Apart n i × (i ≡ n → ⊥)

pub past : (n i : ℕ) → Apart n i → n ≤ i
past zero i a = omega arith
past (suc n) i a =
    let e : n ≤ i = past n i a.0 in
    let f : i ≡ n → ⊥ = a.1 in
    omega arith

pub at_last : (i : ℕ) → 15 ≤ i → i < 16 → i ≡ 15
at_last i h l = omega arith
