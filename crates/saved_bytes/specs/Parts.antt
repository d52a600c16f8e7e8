-- The sum of a body's bytes (paper 02, W12: "the sum of the body's bytes mod 2^32").
use Rattle.std.specs.Prelude.{ℕ, ◌+◌, ◌%◌, ◌^◌, List, [], ◌∷◌}

-- the sum of bytes, each as 0 to 255
abbrev pub total_of : List ℕ → ℕ
total_of [] = 0
total_of (b ∷ bs) = b + total_of bs

-- the same mod 2^32
unfoldable pub body_sum_of : List ℕ → ℕ
body_sum_of bytes = total_of bytes % 2 ^ 32
