-- Sign extension, as one definition over both widths, and the signed reading of a number at any width. `half` is half
-- the range of the narrow width: 16 for five bits, 32,768 for sixteen. `extended-signed` says that extension keeps the
-- signed reading, `extended-word` that it gives a number of the wide width, and `extended-bits` that the bits above the
-- narrow width are copies of the sign.
use Rattle.std.specs.Prelude.{ℕ, suc, ◌+◌, ◌-◌, ◌*◌, ◌/◌, ◌%◌, ◌<◌, ◌≤◌, ◌^◌, ◌≡◌, ltb, ℤ, pos, ◌-ℤ◌}
use Rattle.word.specs.Choose.{pick}

-- x, whose sign is at `half`, at a width of `bits` bits: the bits above are copies of the sign
abbrev pub extend_to : ℕ → ℕ → ℕ → ℕ
extend_to bits half x = pick (ltb x half) x (x + (2 ^ bits - 2 * half))

-- the same at 32 bits
unfoldable pub extend_of : ℕ → ℕ → ℕ
extend_of half x = extend_to 32 half x

-- the signed reading of x at the width whose half range is `half`
unfoldable pub signed_of : ℕ → ℕ → ℤ
signed_of half x = pick (ltb x half) (pos x) (pos x -ℤ pos (2 * half))

-- sign extension to n + 1 bits gives a number of n + 1 bits
abbrev pub ExtendedWord : Type 0
ExtendedWord =
    (n half x : ℕ) → half ≤ 2 ^ n → x < 2 * half → extend_to (suc n) half x < 2 ^ suc n

-- sign extension keeps the signed reading, from every width to every width
abbrev pub ExtendedSigned : Type 0
ExtendedSigned =
    (n half x : ℕ) → half ≤ 2 ^ n → x < 2 * half → signed_of (2 ^ n) (extend_to (suc n) half x) ≡ signed_of half x

-- each bit from the sign on is a copy of the sign, which is bit k of a number of k + 1 bits
abbrev pub ExtendedBits : Type 0
ExtendedBits =
    (bits k j x : ℕ) → x < 2 * 2 ^ k → k ≤ j → j < bits → extend_to bits (2 ^ k) x / 2 ^ j % 2 ≡ x / 2 ^ k
