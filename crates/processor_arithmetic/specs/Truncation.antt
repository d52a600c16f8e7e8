-- Division towards zero: what it means that a quotient and a remainder are those of a truncated division.
use Rattle.std.specs.Prelude.{◌≡◌, ◌<◌, ℤ, pos, ◌+ℤ◌, ◌*ℤ◌, ◌≤ℤ◌, unsigned_abs}

-- n divided by d, towards zero: the quotient q, and the remainder r, zero or of the dividend's sign
pub record Truncated (n d q r : ℤ) : Type 0 where
  pub equation : n ≡ q *ℤ d +ℤ r
  pub small : unsigned_abs r < unsigned_abs d
  pub positive : pos 0 ≤ℤ n → pos 0 ≤ℤ r
  pub negative : n ≤ℤ pos 0 → r ≤ℤ pos 0
