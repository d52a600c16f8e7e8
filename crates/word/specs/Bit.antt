-- Bits by their places, counted from 0, and a number with one bit set or cleared.
use Rattle.std.specs.Prelude.{ℕ, ◌+◌, ◌-◌, ◌*◌, ◌/◌, ◌%◌, ◌^◌, Bool, eqb}

-- bit k of a number
abbrev pub bit_at : ℕ → ℕ → ℕ
bit_at k n = n / 2 ^ k % 2

-- whether it is set
abbrev pub is_set : ℕ → ℕ → Bool
is_set k n = eqb (bit_at k n) 1

-- the number with that bit cleared, and set
abbrev pub without_bit : ℕ → ℕ → ℕ
without_bit k n = n - bit_at k n * 2 ^ k

abbrev pub with_bit : ℕ → ℕ → ℕ
with_bit k n = without_bit k n + 2 ^ k
