-- Inner: a place of a character row, as the eight columns are painted at once.
use Rattle.std.specs.Prelude.{ℕ, ◌*◌, ◌^◌, ◌<◌, ◌≡◌}

-- a place of a row, given by its unit: 1 shifted to the lower of its two bits
pub record PlaceUnit (unit : ℕ) : Type 0 where
  pub place : ℕ
  pub in_row : place < 8
  pub is : unit ≡ 2 ^ (2 * place)
