-- What it is to be the nearest float (request W4: "each result is rounded once to nearest, ties to even"), over whole
-- numbers: no finite word's value is nearer to num / den, and where another's is as near, the word is even.
use Rattle.std.specs.Prelude.{ℕ, ◌%◌, ◌^◌, ◌<◌, ◌≤◌, ◌≡◌, ◌≢◌, ℤ, pos, nat_abs, ◌-ℤ◌, ◌*ℤ◌}
use Rattle.processor_float.specs.Operand.{value_of}

-- a word that is not an infinity and not a NaN
abbrev pub Finite : ℕ → Type 0
Finite w = w % 2 ^ 31 < 0x7F800000

-- how far the value of a word is from num / den, with both brought over den * 2 ^ 149
abbrev pub distance_of : ℤ → ℕ → ℕ → ℕ
distance_of num den w = nat_abs (value_of w *ℤ pos den -ℤ num *ℤ pos (2 ^ 149))

pub record NearestEven (num : ℤ) (den r : ℕ) : Type 0 where
  pub nearest : (z : ℕ) → Finite z → distance_of num den r ≤ distance_of num den z
  pub even : (z : ℕ) → Finite z → distance_of num den r ≡ distance_of num den z → value_of z ≢ value_of r → r % 2 ≡ 0
