-- Inner: an object's square with its left edge biased by 1,024, as a window's is, and what objects and groups make of a
-- pixel. Each statement says that a biased quantity is paper 01's; the proofs are in proofs/ObjectFormulas.
use Rattle.std.specs.Prelude.{ℕ, zero, suc, ◌+◌, ◌-◌, ◌%◌, ◌≡◌, Bool, ◌&&◌, List, get_or, leb, ltb, pos, ◌+ℤ◌, ◌-ℤ◌, ◌≤ℤ◌}
use Rattle.std.specs.Int.Signed.{le_z, lt_z}
use Rattle.word.specs.Choose.{pick}
use Rattle.word.specs.Floors.{mod_z}
use Rattle.bus.specs.Registers.{spt_of, jplt_of}
use Rattle.drawing_pixel.specs.Character.{cell_pixel_of}
use Rattle.drawing_pixel.specs.Object.{object_of, object_shown_of, object_after_of, group_count_of}
use Rattle.drawing_pixel.specs.ObjectFormulas.{object_left, JY}
use Rattle.drawing_pixel.specs.inner.BiasedFields.{biased_of, edge_biased}

-- left x is JX - JP, right JX + JP, plus 1,024
unfoldable pub object_left_biased : List ℕ → ℕ → ℕ
object_left_biased o eye = edge_biased eye (biased_of 512 (get_or o 0 0)) (biased_of 512 (get_or o 1 0))

-- 01: "Left x is JX - JP, right JX + JP"
abbrev pub ObjectLeft : Type 0
ObjectLeft =
    (o : List ℕ) (eye : ℕ) → pos (object_left_biased o eye) ≡ object_left o eye +ℤ pos 1024

-- the object's row at an image row: (y - JY) mod 256, shown below 8
unfoldable pub object_row_biased : List ℕ → ℕ → ℕ
object_row_biased o y = (y + 256 - get_or o 2 0 % 256) % 256

-- 01: "row is (y - JY) mod 256"
abbrev pub ObjectRow : Type 0
ObjectRow =
    (o : List ℕ) (y : ℕ) → pos (object_row_biased o y) ≡ mod_z (pos y -ℤ JY o) 256

-- the object's column at an image column
unfoldable pub object_column_biased : List ℕ → ℕ → ℕ → ℕ
object_column_biased o eye x = x + 1024 - object_left_biased o eye

-- the object's column at x: x - (JX -/+ JP)
abbrev pub ObjectColumn : Type 0
ObjectColumn =
    (o : List ℕ) (eye x : ℕ) → object_left o eye ≤ℤ pos x → pos (object_column_biased o eye x) ≡ pos x -ℤ object_left o eye

-- whether an object covers a pixel: shown to the eye, and its 8 by 8 square holds the pixel
unfoldable pub object_covers_biased : List ℕ → ℕ → ℕ → ℕ → Bool
object_covers_biased o eye x y =
    object_shown_of o eye
    && (ltb (object_row_biased o y) 8
    && (leb (object_left_biased o eye) (x + 1024) && ltb (x + 1024) (object_left_biased o eye + 8)))

-- 01: "shown below 8", and the columns from JX -/+ JP on: the 8 by 8 square that holds the pixel
abbrev pub ObjectCovers : Type 0
ObjectCovers =
    (o : List ℕ) (eye x y : ℕ)
    → object_covers_biased o eye x y
    ≡ object_shown_of o eye
    && (lt_z (mod_z (pos y -ℤ JY o) 256) (pos 8)
    && (le_z (object_left o eye) (pos x) && lt_z (pos x) (object_left o eye +ℤ pos 8)))

-- what an object makes of a pixel
unfoldable pub object_pixel_biased : (vram regs o : List ℕ) (eye x y before : ℕ) → ℕ
object_pixel_biased vram regs o eye x y before =
    pick (object_covers_biased o eye x y)
    (cell_pixel_of vram (jplt_of regs) (get_or o 3 0) (object_column_biased o eye x) (object_row_biased o y) before)
    before

-- what `count` objects from object k downwards make of a pixel, one over the other
unfoldable pub objects_pixel_biased : (vram regs : List ℕ) (eye x y count k before : ℕ) → ℕ
objects_pixel_biased vram regs eye x y zero k before = before
objects_pixel_biased vram regs eye x y (suc count) k before =
    objects_pixel_biased vram regs eye x y count (object_after_of k)
    (object_pixel_biased vram regs (object_of vram k) eye x y before)

-- what group n makes of a pixel
unfoldable pub group_pixel_biased : (vram regs : List ℕ) (n eye x y before : ℕ) → ℕ
group_pixel_biased vram regs n eye x y before =
    objects_pixel_biased vram regs eye x y (group_count_of regs n) (spt_of regs n) before
