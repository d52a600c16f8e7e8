-- Paper 01, "Window", over the integers: where a window begins, and the rows of 01's plain rule. The rows that a world
-- has are in HeightFormulas.
use Rattle.std.specs.Prelude.{ℕ, Bool, ◌&&◌, List, ℤ, pos, ◌+ℤ◌}
use Rattle.std.specs.Int.Signed.{le_z, lt_z}
use Rattle.drawing_pixel.specs.Fields.{GX, GP, GY, H, with_parallax}

-- GX - GP left, GX + GP right
abbrev pub window_left : List ℕ → ℕ → ℤ
window_left w eye = with_parallax eye (GX w) (GP w)

-- the rows of 01's plain rule, H + 1: GY ≤ y < GY + (H + 1)
abbrev pub plain_row : List ℕ → ℕ → Bool
plain_row w y = le_z (GY w) (pos y) && lt_z (pos y) (GY w +ℤ (H w +ℤ pos 1))
