-- What "covers" means (paper 01, "The bytes a pixel answers to"), said of each world and each object by itself: which
-- background worlds and which objects cover a pixel of an eye, transparent there or not.
use Rattle.std.specs.Prelude.{ℕ, zero, suc, ◌+◌, ◌-◌, ◌%◌, Bool, false, ◌&&◌, ◌||◌, not, List, [], ◌∷◌, length, eqb, leb, ltb}
use Rattle.word.specs.Choose.{pick}
use Rattle.bus.specs.Registers.{spt_of}
use Rattle.drawing_pixel.specs.World.{world_of, end_of, bgm_of}
use Rattle.drawing_pixel.specs.Object.{object_of, group_count_of}
use Rattle.drawing_pixel.specs.Pixel.{world_covers, object_covers, draws_objects_of}

-- whether a test holds of a number below n
unfoldable pub some_below : ℕ → (ℕ → Bool) → Bool
some_below zero test = false
some_below (suc n) test = test n || some_below n test

-- the numbers below n of which a test holds, greatest first
unfoldable pub which_below : ℕ → (ℕ → Bool) → List ℕ
which_below zero test = []
which_below (suc n) test = pick (test n) (n ∷ which_below n test) (which_below n test)

-- reached before END: neither world n nor a world above it has END
unfoldable pub reached_of : List ℕ → ℕ → Bool
reached_of vram n = not (some_below 32 (λ m. leb n m && end_of (world_of vram m)))

-- the group of world n where it draws objects: 3, one less for each object world above it, and 3 again after 0 (35 is
-- 3 plus a multiple of 4, and no fewer than the worlds above)
unfoldable pub group_of : List ℕ → ℕ → ℕ
group_of vram n = (35 - length (which_below 32 (λ m. ltb n m && draws_objects_of (world_of vram m)))) % 4

-- whether object k is of group n: it stands from SPTn downwards mod 1,024 among as many objects as the group has
unfoldable pub in_group_of : List ℕ → ℕ → ℕ → Bool
in_group_of regs n k = ltb ((spt_of regs n + 1024 - k) % 1024) (group_count_of regs n)

-- whether world n is a background world that covers the pixel: reached, shown to the eye, the pixel in its window
unfoldable pub background_covers_of : (vram : List ℕ) (eye x y n : ℕ) → Bool
background_covers_of vram eye x y n =
    reached_of vram n && (not (eqb (bgm_of (world_of vram n)) 3) && world_covers (world_of vram n) eye x y)

-- whether world n is a reached object world that draws object k to the eye, the pixel in the object's square
unfoldable pub draws_over_of : (vram regs : List ℕ) (eye x y k n : ℕ) → Bool
draws_over_of vram regs eye x y k n =
    reached_of vram n
    && (draws_objects_of (world_of vram n)
    && (in_group_of regs (group_of vram n) k && object_covers (object_of vram k) eye x y))

-- whether object k covers the pixel: some object world draws it there
unfoldable pub object_covers_pixel_of : (vram regs : List ℕ) (eye x y k : ℕ) → Bool
object_covers_pixel_of vram regs eye x y k = some_below 32 (draws_over_of vram regs eye x y k)

-- the background worlds that cover the pixel, 31 first
unfoldable pub covering_worlds_of : (vram : List ℕ) (eye x y : ℕ) → List ℕ
covering_worlds_of vram eye x y = which_below 32 (background_covers_of vram eye x y)

-- the objects that cover the pixel, 1,023 first, each once however often it is drawn
unfoldable pub covering_objects_of : (vram regs : List ℕ) (eye x y : ℕ) → List ℕ
covering_objects_of vram regs eye x y = which_below 1024 (object_covers_pixel_of vram regs eye x y)
