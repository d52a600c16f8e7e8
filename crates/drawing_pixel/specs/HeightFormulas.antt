-- The rows of a world over the integers: readings R4 and R5, and W3 ("Short worlds are taller on the chip").
-- `rows` has two cases, with GY and H signed.
use Rattle.std.specs.Prelude.{ℕ, max, Bool, ◌&&◌, not, List, eqb, pos, ◌+ℤ◌, ◌-ℤ◌}
use Rattle.std.specs.Int.Signed.{le_z}
use Rattle.word.specs.Choose.{pick}
use Rattle.word.specs.Integers.{above_zero}
use Rattle.word.specs.Floors.{mod_z}
use Rattle.drawing_pixel.specs.World.{bgm_of}
use Rattle.drawing_pixel.specs.Fields.{GY, H}

-- 0 ≤ GY ≤ 223
abbrev pub top_in_image : List ℕ → Bool
top_in_image w = le_z (pos 0) (GY w) && le_z (GY w) (pos 223)

-- W3: "everything from GY to the end of the strip holding it": 8 - GY mod 8 rows
abbrev pub strip_rest : List ℕ → ℕ
strip_rest w = above_zero (pos 8 -ℤ mod_z (GY w) 8)

-- the rows of a world: max(0, H + 1, 8 - GY mod 8) where it is normal or H-bias and GY is from 0 to 223 (W3);
-- max(0, H + 1) where it is affine or no strip of the image holds GY (R5)
abbrev pub rows : List ℕ → ℕ
rows w =
    pick (not (eqb (bgm_of w) 2) && top_in_image w) (max (above_zero (H w +ℤ pos 1)) (strip_rest w))
    (above_zero (H w +ℤ pos 1))
