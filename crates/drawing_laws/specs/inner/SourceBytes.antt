-- Inner: the bytes a pixel answers to, on numbers with a bias as the painters have them and by the loop that makes the
-- pixel (worlds 31 to 0, END, the skip rule, the object counter), and the statement that the list is that of
-- PixelBytes. Its proof is `listed-formula` in proofs/PixelBytes.
use Rattle.std.specs.Prelude.{ℕ, zero, suc, ◌%◌, Bool, true, false, ◌&&◌, ◌||◌, List, [], ◌++◌, ◌≡◌, get_or, eqb}
use Rattle.word.specs.Choose.{pick}
use Rattle.word.specs.LittleEndian.{half_at}
use Rattle.bus.specs.Registers.{spt_of, drawing_ok}
use Rattle.drawing_pixel.specs.Character.{row_address_of}
use Rattle.drawing_pixel.specs.World.{world_of, end_of, skipped_of, bgm_of}
use Rattle.drawing_pixel.specs.inner.BiasedWindow.{column_in_biased, row_in_biased, world_covers_biased}
use Rattle.drawing_pixel.specs.inner.BiasedSource.{source_x_biased, source_y_biased}
use Rattle.drawing_pixel.specs.inner.BiasedCell.{source_cell_address_biased}
use Rattle.drawing_pixel.specs.Object.{object_of, object_after_of, group_count_of}
use Rattle.drawing_pixel.specs.inner.BiasedObject.{object_row_biased, object_covers_biased}
use Rattle.drawing_pixel.specs.Pixel.{draws_objects_of, counter_of}
use Rattle.drawing_laws.specs.PixelBytes.{half_bytes_of, parameter_bytes_of, pixel_bytes_of}

-- a source pixel's cell (the overplane's where that is used) and the character row that the cell leads to
unfoldable pub cell_bytes_biased : List ℕ → List ℕ → ℕ → ℕ → List ℕ
cell_bytes_biased vram w sx sy =
    half_bytes_of (source_cell_address_biased w sx sy)
    ++ half_bytes_of (row_address_of (half_at vram (source_cell_address_biased w sx sy)) (sy % 8))

-- the bytes of a background world, none where it does not cover the pixel
unfoldable pub background_bytes_biased : (vram w : List ℕ) (eye x y : ℕ) → List ℕ
background_bytes_biased vram w eye x y =
    pick (world_covers_biased w eye x y)
    (parameter_bytes_of w eye (row_in_biased w y)
    ++ cell_bytes_biased vram w
    (source_x_biased vram w eye (column_in_biased w eye x) (row_in_biased w y))
    (source_y_biased vram w eye (column_in_biased w eye x) (row_in_biased w y)))
    []

-- the bytes of a world, those of its objects aside
unfoldable pub world_bytes_biased : (vram w : List ℕ) (eye x y : ℕ) → List ℕ
world_bytes_biased vram w eye x y =
    pick (skipped_of w) [] (pick (eqb (bgm_of w) 3) [] (background_bytes_biased vram w eye x y))

-- the bytes of worlds n - 1 to 0; END stops
unfoldable pub worlds_bytes_biased : (vram : List ℕ) (eye x y n : ℕ) → List ℕ
worlds_bytes_biased vram eye x y zero = []
worlds_bytes_biased vram eye x y (suc n) =
    pick (end_of (world_of vram n)) []
    (world_bytes_biased vram (world_of vram n) eye x y ++ worlds_bytes_biased vram eye x y n)

-- whether object k is among `count` objects from object j downwards
unfoldable pub among_of : ℕ → ℕ → ℕ → Bool
among_of zero j k = false
among_of (suc count) j k = eqb j k || among_of count (object_after_of j) k

-- whether a world draws object k of group `counter` to the eye, the pixel in the object's square
unfoldable pub world_draws_biased : (vram regs w : List ℕ) (counter eye x y k : ℕ) → Bool
world_draws_biased vram regs w counter eye x y k =
    draws_objects_of w
    && (among_of (group_count_of regs counter) (spt_of regs counter) k && object_covers_biased (object_of vram k) eye x y)

-- the same of worlds n - 1 to 0, at an object counter; END stops
unfoldable pub worlds_draw_biased : (vram regs : List ℕ) (eye x y n counter k : ℕ) → Bool
worlds_draw_biased vram regs eye x y zero counter k = false
worlds_draw_biased vram regs eye x y (suc n) counter k =
    pick (end_of (world_of vram n)) false
    (world_draws_biased vram regs (world_of vram n) counter eye x y k
    || worlds_draw_biased vram regs eye x y n (counter_of (world_of vram n) counter) k)

-- an object's character row
unfoldable pub object_bytes_biased : List ℕ → ℕ → List ℕ
object_bytes_biased o y = half_bytes_of (row_address_of (get_or o 3 0) (object_row_biased o y))

-- the bytes of objects n - 1 to 0, each listed once however often it is drawn
unfoldable pub objects_bytes_biased : (vram regs : List ℕ) (eye x y k : ℕ) → List ℕ
objects_bytes_biased vram regs eye x y zero = []
objects_bytes_biased vram regs eye x y (suc k) =
    pick (worlds_draw_biased vram regs eye x y 32 3 k) (object_bytes_biased (object_of vram k) y) []
    ++ objects_bytes_biased vram regs eye x y k

-- the bytes that the pixel at column x and row y of an eye's image answers to
unfoldable pub pixel_bytes_biased : (vram regs : List ℕ) (eye x y : ℕ) → List ℕ
pixel_bytes_biased vram regs eye x y = worlds_bytes_biased vram eye x y 32 ++ objects_bytes_biased vram regs eye x y 1024

-- the list is that over the integers
abbrev pub ListedFormula : Type 0
ListedFormula =
    (vram regs : List ℕ) (eye x y : ℕ) → drawing_ok regs ≡ true
    → pixel_bytes_biased vram regs eye x y ≡ pixel_bytes_of vram regs eye x y
