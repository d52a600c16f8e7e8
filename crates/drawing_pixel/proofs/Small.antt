-- A pixel is below 4 whatever paints over it, where it was below 4 before. Assumes nothing.
use Prim.Native.Nat.{ℕ, zero, suc, ◌<◌}
use mathlib.Core.Bool.{Bool}
use mathlib.Core.List.{List}
use lib.Dec.{eqb}
use Rattle.word.specs.Choose.{pick}
use Rattle.word.proofs.Choices.{pick-each}
use Rattle.bus.specs.Registers.{bkcol_of, spt_of}
use Rattle.drawing_pixel.specs.Character.{shade_of, cell_pixel_of}
use Rattle.drawing_pixel.specs.World.{world_of, end_of, skipped_of, bgm_of}
use Rattle.drawing_pixel.specs.inner.BiasedWindow.{world_covers_biased}
use Rattle.drawing_pixel.specs.inner.BiasedCell.{source_pixel_biased, background_pixel_biased}
use Rattle.drawing_pixel.specs.Object.{object_of, object_after_of, group_count_of}
use Rattle.drawing_pixel.specs.inner.BiasedObject.{object_pixel_biased, object_covers_biased, objects_pixel_biased, group_pixel_biased}
use Rattle.drawing_pixel.specs.Pixel.{counter_of, pixel_of}
use Rattle.drawing_pixel.specs.inner.Painting.{world_pixel_biased, worlds_pixel_biased, pixel_biased}
use Rattle.drawing_pixel.proofs.Painting.{pixel-formula}
use Rattle.drawing_pixel.proofs.Pairs.{pair_lt}

pub choice-small : (b : Bool) (m n : ℕ) → m < 4 → n < 4 → pick b m n < 4
choice-small = pick-each (λ (k : ℕ). k < 4)

pub shade-small : (palette value before : ℕ) → before < 4 → shade_of palette value before < 4
unfolding shade_of
shade-small palette value before h = choice-small (eqb value 0) _ _ h (pair_lt palette value)

pub cell-small : (vram : List ℕ) (palettes : ℕ → ℕ) (cell column r v : ℕ) → v < 4 → cell_pixel_of vram palettes cell column r v < 4
unfolding cell_pixel_of
cell-small vram palettes cell column r v h = shade-small _ _ v h

pub source-small : (vram regs w : List ℕ) (sx sy v : ℕ) → v < 4 → source_pixel_biased vram regs w sx sy v < 4
unfolding source_pixel_biased
source-small vram regs w sx sy v h = cell-small vram _ _ _ _ v h

pub background-small : (vram regs w : List ℕ) (eye x y v : ℕ) → v < 4 → background_pixel_biased vram regs w eye x y v < 4
unfolding background_pixel_biased
background-small vram regs w eye x y v h = choice-small (world_covers_biased w eye x y) _ _ (source-small vram regs w _ _ v h) h

pub object-small : (vram regs o : List ℕ) (eye x y v : ℕ) → v < 4 → object_pixel_biased vram regs o eye x y v < 4
unfolding object_pixel_biased
object-small vram regs o eye x y v h = choice-small (object_covers_biased o eye x y) _ _ (cell-small vram _ _ _ _ v h) h

pub objects-small : (vram regs : List ℕ) (eye x y count k v : ℕ) → v < 4 → objects_pixel_biased vram regs eye x y count k v < 4
unfolding objects_pixel_biased
objects-small vram regs eye x y zero k v h = h
objects-small vram regs eye x y (suc n) k v h =
    objects-small vram regs eye x y n (object_after_of k) (object_pixel_biased vram regs (object_of vram k) eye x y v)
    (object-small vram regs (object_of vram k) eye x y v h)

pub world-small : (vram regs w : List ℕ) (counter eye x y v : ℕ) → v < 4 → world_pixel_biased vram regs w counter eye x y v < 4
unfolding world_pixel_biased group_pixel_biased
world-small vram regs w counter eye x y v h =
    choice-small (skipped_of w) _ _ h
    (choice-small (eqb (bgm_of w) 3) _ _
    (objects-small vram regs eye x y (group_count_of regs counter) (spt_of regs counter) v h)
    (background-small vram regs w eye x y v h))

pub worlds-small : (vram regs : List ℕ) (eye x y n counter v : ℕ) → v < 4 → worlds_pixel_biased vram regs eye x y n counter v < 4
unfolding worlds_pixel_biased
worlds-small vram regs eye x y zero counter v h = h
worlds-small vram regs eye x y (suc n) counter v h =
    choice-small (end_of (world_of vram n)) _ _ h
    (worlds-small vram regs eye x y n (counter_of (world_of vram n) counter)
    (world_pixel_biased vram regs (world_of vram n) counter eye x y v)
    (world-small vram regs (world_of vram n) counter eye x y v h))

-- where BKCOL is within its width, every pixel is two bits
pub pixel-small : (vram regs : List ℕ) (eye x y : ℕ) → bkcol_of regs < 4 → pixel_of vram regs eye x y < 4
pixel-small vram regs eye x y h = rw (← pixel-formula vram regs eye x y) (painted-small vram regs eye x y h)
  where
    painted-small : (vram regs : List ℕ) (eye x y : ℕ) → bkcol_of regs < 4 → pixel_biased vram regs eye x y < 4
    painted-small vram regs eye x y h = unfold pixel_biased in worlds-small vram regs eye x y 32 3 (bkcol_of regs) h
