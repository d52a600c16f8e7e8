-- A fraction rounded once, to nearest, ties to even (request W4): to 24 binary digits with no limit of the exponent
-- from above, and to whole units of 2 ^ -149 from below. Sizes only, in those units; the sign is kept apart.
use Rattle.std.specs.Prelude.{ℕ, ◌-◌, ◌*◌, ◌/◌, ◌^◌}
use Rattle.std.specs.Float.Ieee.{size}
use Rattle.std.specs.Float.Ieee.Nearest.{closest}

-- how many binary digits of num / den, in units, 24 digits do not hold
abbrev pub dropped_of : ℕ → ℕ → ℕ
dropped_of num den = size (num * 2 ^ 149 / den) - 24

-- the digits that are kept: the nearest whole number of 2 ^ dropped units, the even one of two
abbrev pub significand_of : ℕ → ℕ → ℕ
significand_of num den = closest (num * 2 ^ 149) (den * 2 ^ dropped_of num den)

-- the rounded size, in units
abbrev pub rounded_of : ℕ → ℕ → ℕ
rounded_of num den = significand_of num den * 2 ^ dropped_of num den
