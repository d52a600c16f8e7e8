-- How long the list is: `few`, at most 14 bytes for each covering background world and 2 for each covering object, and
-- `listed-length`, 4 bytes for each covering normal world, 6 for H-bias, 14 for affine. Assumes nothing.
use Prim.Native.Nat.{ℕ, ◌+◌, ◌*◌, ◌≤◌}
use mathlib.Core.Bool.{Bool, true, false}
use mathlib.Core.List.{List, [], flat_map}
use mathlib.Core.Path.{◌≡◌, refl, ◌∙◌}
use native.Mathlib.Omega.{arith}
use lib.ListN.{length, length-append}
use lib.Dec.{eqb}
use lib.IntN.{pos, ◌-ℤ◌}
use Rattle.word.specs.Choose.{pick}
use Rattle.word.specs.Integers.{above_zero}
use Rattle.word.proofs.Choices.{pick-each}
use Rattle.drawing_pixel.specs.World.{world_of, bgm_of}
use Rattle.drawing_pixel.specs.Background.{parameter_address_of, bias_index_of}
use Rattle.drawing_pixel.specs.Object.{object_of}
use Rattle.drawing_pixel.specs.Fields.{GY}
use Rattle.drawing_laws.specs.Covers.{covering_worlds_of, covering_objects_of}
use Rattle.drawing_laws.specs.PixelBytes.{half_bytes_of, affine_bytes_of, parameter_bytes_of, background_bytes, object_bytes, pixel_bytes_of}
use Rattle.drawing_laws.specs.Demand3.{world_bytes_count_of, Few, ListedLength}
use Rattle.drawing_laws.proofs.Below.{flat-few, flat-length, flat-all}

-- the parameters' bytes, by BGM
parameters-length : (w : List ℕ) (eye j : ℕ) → length (parameter_bytes_of w eye j) + 4 ≡ world_bytes_count_of w
unfolding parameter_bytes_of affine_bytes_of flat_map
parameters-length w eye j = go (eqb (bgm_of w) 0) (eqb (bgm_of w) 1)
  where
    go : (a b : Bool)
        → length (pick a [] (pick b (half_bytes_of (parameter_address_of w (bias_index_of eye j))) (affine_bytes_of w j))) + 4
        ≡ pick a 4 (pick b 6 14)
    go true b = refl
    go false true = refl
    go false false = refl

most : (w : List ℕ) → world_bytes_count_of w ≤ 14
most w = pick-each (λ n. n ≤ 14) (eqb (bgm_of w) 0) 4 _ (omega arith) (pick-each (λ n. n ≤ 14) (eqb (bgm_of w) 1) 6 14 (omega arith) (omega arith))

world-length : (vram w : List ℕ) (eye x y : ℕ) → length (background_bytes vram w eye x y) ≡ world_bytes_count_of w
world-length vram w eye x y =
    let j = above_zero (pos y -ℤ GY w) in
    length-append (parameter_bytes_of w eye j) _ ∙ parameters-length w eye j

module _ (vram regs : List ℕ) (eye x y : ℕ) where
  objects-length : length (flat_map (λ k. object_bytes (object_of vram k) y) (covering_objects_of vram regs eye x y))
      ≡ 2 * length (covering_objects_of vram regs eye x y)
  objects-length = flat-all (λ k. object_bytes (object_of vram k) y) 2 (λ k. refl) (covering_objects_of vram regs eye x y)

  both-length : length (pixel_bytes_of vram regs eye x y)
      ≡ length (flat_map (λ n. background_bytes vram (world_of vram n) eye x y) (covering_worlds_of vram eye x y))
      + 2 * length (covering_objects_of vram regs eye x y)
  unfolding pixel_bytes_of
  both-length =
      length-append (flat_map (λ n. background_bytes vram (world_of vram n) eye x y) (covering_worlds_of vram eye x y)) _
      ∙ rw objects-length

pub few : Few
few vram regs eye x y =
    let worlds = flat-few (λ n. background_bytes vram (world_of vram n) eye x y) 14
    (λ n. rw (world-length vram (world_of vram n) eye x y) (most (world_of vram n))) (covering_worlds_of vram eye x y) in
    rw (both-length vram regs eye x y) (omega arith)

pub listed-length : ListedLength
listed-length vram regs eye x y =
    both-length vram regs eye x y
    ∙ rw
    (flat-length (λ n. background_bytes vram (world_of vram n) eye x y) (λ n. world_bytes_count_of (world_of vram n))
    (λ n. world-length vram (world_of vram n) eye x y) (covering_worlds_of vram eye x y))
