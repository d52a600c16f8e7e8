-- Paper 01, "Objects", over the integers: where an object stands, and in which order the objects of a group are drawn.
use Rattle.std.specs.Prelude.{ℕ, zero, suc, ◌-◌, ◌%◌, ◌<◌, ◌≡◌, List, get_or, ℤ, pos, ◌-ℤ◌}
use Rattle.bus.specs.Registers.{spt_of}
use Rattle.drawing_pixel.specs.Object.{object_after_of, group_count_of}
use Rattle.word.specs.Floors.{mod_z}
use Rattle.drawing_pixel.specs.Fields.{JX, JP, with_parallax}

-- left x is JX - JP, right JX + JP
abbrev pub object_left : List ℕ → ℕ → ℤ
object_left o eye = with_parallax eye (JX o) (JP o)

-- JY (low 8)
abbrev pub JY : List ℕ → ℤ
JY o = pos (get_or o 2 0 % 256)

-- the object drawn i objects after object k
unfoldable pub drawn_of : ℕ → ℕ → ℕ
drawn_of zero k = k
drawn_of (suc i) k = object_after_of (drawn_of i k)

-- 01: "Group n: SPTn downwards mod 1,024"
abbrev pub ObjectDrawn : Type 0
ObjectDrawn =
    (i k : ℕ) → k < 1024 → pos (drawn_of i k) ≡ mod_z (pos k -ℤ pos i) 1024

-- 01: "group 0 ends at object 0": its objects are SPT0, SPT0 - 1, .., 0
abbrev pub GroupZero : Type 0
GroupZero =
    (regs : List ℕ) (i : ℕ) → spt_of regs 0 < 1024 → i < group_count_of regs 0
    → drawn_of i (spt_of regs 0) ≡ spt_of regs 0 - i
