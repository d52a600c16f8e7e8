-- Floor division of integers (`shr_z z m` of the library, the quotient rounded down) and the remainder that goes with
-- it, which is never negative: what paper 01 calls floor(z / m) and z mod m. `floor-split`, `floor-below`,
-- `floor-above`, `mod_low` and `mod-high` of proofs/Floors say so.
use Rattle.std.specs.Prelude.{ℕ, ℤ, pos, ◌-ℤ◌, ◌*ℤ◌}
use Rattle.std.specs.Int.Signed.{shr_z}

-- z mod m: z - m floor(z / m)
unfoldable pub mod_z : ℤ → ℕ → ℤ
mod_z z m = z -ℤ shr_z z m *ℤ pos m
