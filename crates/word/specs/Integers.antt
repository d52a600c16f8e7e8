-- A whole number as a natural one, where a rule speaks of a whole number that is not negative.
use Rattle.std.specs.Prelude.{ℕ, ℤ, pos, negsuc}

-- z where it is above 0, else 0
abbrev pub above_zero : ℤ → ℕ
above_zero (pos n) = n
above_zero (negsuc n) = 0
