-- Inner: the same fold on numbers with a bias, as the painters make it, and the statements that it is that of Pixel: of
-- a background world, of an object, and of a whole pixel. The proofs are in proofs/Painting.
use Rattle.std.specs.Prelude.{ℕ, zero, suc, ◌≡◌, List, eqb}
use Rattle.word.specs.Choose.{pick}
use Rattle.bus.specs.Registers.{bkcol_of}
use Rattle.drawing_pixel.specs.World.{world_of, end_of, skipped_of, bgm_of}
use Rattle.drawing_pixel.specs.inner.BiasedWindow.{world_covers_biased}
use Rattle.drawing_pixel.specs.inner.BiasedCell.{background_pixel_biased}
use Rattle.drawing_pixel.specs.inner.BiasedObject.{object_covers_biased, object_pixel_biased, group_pixel_biased}
use Rattle.drawing_pixel.specs.Pixel.{counter_of, world_covers, background_pixel, object_covers, object_pixel, pixel_of}

-- what a world makes of a pixel, at an object counter
unfoldable pub world_pixel_biased : (vram regs w : List ℕ) (counter eye x y before : ℕ) → ℕ
world_pixel_biased vram regs w counter eye x y before =
    pick (skipped_of w) before
    (pick (eqb (bgm_of w) 3) (group_pixel_biased vram regs counter eye x y before)
    (background_pixel_biased vram regs w eye x y before))

-- what worlds n - 1 to 0 make of a pixel, at an object counter; END stops
unfoldable pub worlds_pixel_biased : (vram regs : List ℕ) (eye x y n counter before : ℕ) → ℕ
worlds_pixel_biased vram regs eye x y zero counter before = before
worlds_pixel_biased vram regs eye x y (suc n) counter before =
    pick (end_of (world_of vram n)) before
    (worlds_pixel_biased vram regs eye x y n (counter_of (world_of vram n) counter)
    (world_pixel_biased vram regs (world_of vram n) counter eye x y before))

-- the pixel at column x and row y of an eye's image, as it is painted
unfoldable pub pixel_biased : (vram regs : List ℕ) (eye x y : ℕ) → ℕ
pixel_biased vram regs eye x y = worlds_pixel_biased vram regs eye x y 32 3 (bkcol_of regs)

-- a background world covers by its record with a bias what it covers over the integers, and so does an object
abbrev pub WorldCovers : Type 0
WorldCovers = (w : List ℕ) (eye x y : ℕ) → world_covers_biased w eye x y ≡ world_covers w eye x y

abbrev pub ObjectCovered : Type 0
ObjectCovered = (o : List ℕ) (eye x y : ℕ) → object_covers_biased o eye x y ≡ object_covers o eye x y

-- a background world makes of every pixel what paper 01's formulas say
abbrev pub BackgroundFormula : Type 0
BackgroundFormula =
    (vram regs w : List ℕ) (eye x y before : ℕ)
    → background_pixel_biased vram regs w eye x y before ≡ background_pixel vram regs w eye x y before

-- and so does an object
abbrev pub ObjectFormula : Type 0
ObjectFormula =
    (vram regs o : List ℕ) (eye x y before : ℕ)
    → object_pixel_biased vram regs o eye x y before ≡ object_pixel vram regs o eye x y before

-- and so do BKCOL and worlds 31 to 0, one after the other
abbrev pub PixelFormula : Type 0
PixelFormula = (vram regs : List ℕ) (eye x y : ℕ) → pixel_biased vram regs eye x y ≡ pixel_of vram regs eye x y
