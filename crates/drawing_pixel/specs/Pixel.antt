-- What a pixel is (paper 01, "Drawing"; paper 000, "Drawing Procedure"), over the integers: what a background world and
-- an object make of it, and the loop over worlds: a pixel starts as BKCOL, and worlds 31 to 0 paint over it one after
-- the other.
use Rattle.std.specs.Prelude.{ℕ, zero, suc, ◌+◌, ◌*◌, ◌/◌, ◌%◌, ◌^◌, ◌≡◌, Bool, ◌&&◌, not, List, get_or, eqb, ℤ, pos, ◌+ℤ◌, ◌-ℤ◌}
use Rattle.std.specs.Int.Signed.{le_z, lt_z}
use Rattle.word.specs.Choose.{pick}
use Rattle.word.specs.LittleEndian.{half_at}
use Rattle.bus.specs.Registers.{gplt_of, jplt_of, spt_of, bkcol_of}
use Rattle.drawing_pixel.specs.Character.{cell_pixel_of}
use Rattle.drawing_pixel.specs.World.{world_of, end_of, skipped_of, bgm_of, over_of, scx_of, scy_of, world_shown_of}
use Rattle.drawing_pixel.specs.Background.{map_table, map_number_of}
use Rattle.drawing_pixel.specs.Object.{object_of, object_shown_of, object_after_of, group_count_of}
use Rattle.word.specs.Integers.{above_zero}
use Rattle.word.specs.Floors.{mod_z}
use Rattle.drawing_pixel.specs.Fields.{GY, W}
use Rattle.drawing_pixel.specs.HeightFormulas.{rows}
use Rattle.drawing_pixel.specs.WindowFormulas.{window_left}
use Rattle.drawing_pixel.specs.SourceFormulas.{source_x, source_y}
use Rattle.drawing_pixel.specs.ObjectFormulas.{object_left, JY, drawn_of}

-- shown to the eye, GY ≤ y < GY + rows, GX -/+ GP ≤ x < GX -/+ GP + (W + 1)
abbrev pub world_covers : List ℕ → ℕ → ℕ → ℕ → Bool
world_covers w eye x y =
    world_shown_of w eye
    && ((le_z (GY w) (pos y) && lt_z (pos y) (GY w +ℤ pos (rows w)))
    && (le_z (window_left w eye) (pos x) && lt_z (pos x) (window_left w eye +ℤ (W w +ℤ pos 1))))

-- 0 ≤ x < 512 * 2^SCX and 0 ≤ y < 512 * 2^SCY
abbrev pub inside : List ℕ → ℤ → ℤ → Bool
inside w x y =
    (le_z (pos 0) x && lt_z x (pos (512 * 2 ^ scx_of w))) && (le_z (pos 0) y && lt_z y (pos (512 * 2 ^ scy_of w)))

-- the cell of pixel (s, t) of the background: maps of 512 pixels in rows, 8,192 bytes each, 64 cells a row
abbrev pub map_cell_address : List ℕ → ℕ → ℕ → ℕ
map_cell_address w s t = map_table + 8192 * map_number_of w (s / 512) (t / 512) + 2 * (64 * (t % 512 / 8) + s % 512 / 8)

-- OVER clear: source wraps to that size; set: outside uses the cell at 0x20000 + 2 * overplane
abbrev pub cell_address : List ℕ → ℤ → ℤ → ℕ
cell_address w x y =
    pick (over_of w && not (inside w x y))
    (map_table + 2 * get_or w 10 0)
    (map_cell_address w (above_zero (mod_z x (512 * 2 ^ scx_of w))) (above_zero (mod_z y (512 * 2 ^ scy_of w))))

-- source pixel (x, y) of the background, over what was there
abbrev pub source_pixel : (vram regs w : List ℕ) (x y : ℤ) (before : ℕ) → ℕ
source_pixel vram regs w x y before =
    cell_pixel_of vram (gplt_of regs) (half_at vram (cell_address w x y)) (above_zero (mod_z x 8))
    (above_zero (mod_z y 8)) before

-- what a background world makes of a pixel, at i = x - (GX -/+ GP) and j = y - GY
abbrev pub background_pixel : (vram regs w : List ℕ) (eye x y before : ℕ) → ℕ
background_pixel vram regs w eye x y before =
    let i = above_zero (pos x -ℤ window_left w eye) in
    let j = above_zero (pos y -ℤ GY w) in
    pick (world_covers w eye x y)
    (source_pixel vram regs w (source_x vram w eye i j) (source_y vram w eye i j) before) before

-- the object's row at an image row: (y - JY) mod 256
abbrev pub object_row : List ℕ → ℕ → ℤ
object_row o y = mod_z (pos y -ℤ JY o) 256

-- shown to the eye, and the 8 by 8 square from JX -/+ JP on holds the pixel
abbrev pub object_covers : List ℕ → ℕ → ℕ → ℕ → Bool
object_covers o eye x y =
    object_shown_of o eye
    && (lt_z (object_row o y) (pos 8) && (le_z (object_left o eye) (pos x) && lt_z (pos x) (object_left o eye +ℤ pos 8)))

-- what an object makes of a pixel, at column x - (JX -/+ JP) and that row
abbrev pub object_pixel : (vram regs o : List ℕ) (eye x y before : ℕ) → ℕ
object_pixel vram regs o eye x y before =
    pick (object_covers o eye x y)
    (cell_pixel_of vram (jplt_of regs) (get_or o 3 0) (above_zero (pos x -ℤ object_left o eye))
    (above_zero (object_row o y)) before)
    before

-- the object counter after a group was drawn: one less, 3 after 0
abbrev pub counter_after_of : ℕ → ℕ
counter_after_of zero = 3
counter_after_of (suc n) = n

-- whether a world draws objects: BGM 3, and not skipped
unfoldable pub draws_objects_of : List ℕ → Bool
draws_objects_of w = not (skipped_of w) && eqb (bgm_of w) 3

-- the object counter after a world: only a world that draws objects moves it
unfoldable pub counter_of : List ℕ → ℕ → ℕ
counter_of w counter = pick (draws_objects_of w) (counter_after_of counter) counter

-- `count` objects from object k downwards
unfoldable pub objects_pixel : (vram regs : List ℕ) (eye x y count k before : ℕ) → ℕ
objects_pixel vram regs eye x y zero k before = before
objects_pixel vram regs eye x y (suc count) k before =
    objects_pixel vram regs eye x y count (object_after_of k) (object_pixel vram regs (object_of vram k) eye x y before)

-- the last of n + 1 objects is drawn over the n before it, and it is the one n objects after the first
abbrev pub ObjectsInOrder : Type 0
ObjectsInOrder =
    (vram regs : List ℕ) (eye x y n k before : ℕ)
    → objects_pixel vram regs eye x y (suc n) k before
    ≡ object_pixel vram regs (object_of vram (drawn_of n k)) eye x y (objects_pixel vram regs eye x y n k before)

-- a world, at an object counter
unfoldable pub world_pixel : (vram regs w : List ℕ) (counter eye x y before : ℕ) → ℕ
world_pixel vram regs w counter eye x y before =
    pick (skipped_of w) before
    (pick (eqb (bgm_of w) 3)
    (objects_pixel vram regs eye x y (group_count_of regs counter) (spt_of regs counter) before)
    (background_pixel vram regs w eye x y before))

-- worlds n - 1 to 0
unfoldable pub worlds_pixel : (vram regs : List ℕ) (eye x y n counter before : ℕ) → ℕ
worlds_pixel vram regs eye x y zero counter before = before
worlds_pixel vram regs eye x y (suc n) counter before =
    pick (end_of (world_of vram n)) before
    (worlds_pixel vram regs eye x y n (counter_of (world_of vram n) counter)
    (world_pixel vram regs (world_of vram n) counter eye x y before))

-- the pixel at column x and row y of an eye's image
unfoldable pub pixel_of : (vram regs : List ℕ) (eye x y : ℕ) → ℕ
pixel_of vram regs eye x y = worlds_pixel vram regs eye x y 32 3 (bkcol_of regs)
