-- The bytes a pixel answers to (paper 01, the section of that name), as a list of single-byte addresses of VRAM, worked
-- out in one memory over the integers: those of each background world that covers the pixel, world 31 first, then those
-- of each object that does, object 1,023 first.
use Rattle.std.specs.Prelude.{ℕ, ◌+◌, ◌*◌, get_or, eqb, ℤ, pos, ◌-ℤ◌}
use mathlib.Core.List.{List, [], ◌∷◌, ◌++◌, flat_map}
use Rattle.word.specs.Choose.{pick}
use Rattle.word.specs.LittleEndian.{half_at}
use Rattle.drawing_pixel.specs.Character.{row_address_of}
use Rattle.drawing_pixel.specs.World.{world_of, bgm_of}
use Rattle.drawing_pixel.specs.Background.{parameter_address_of, bias_index_of}
use Rattle.drawing_pixel.specs.Object.{object_of}
use Rattle.word.specs.Integers.{above_zero}
use Rattle.word.specs.Floors.{mod_z}
use Rattle.drawing_pixel.specs.Fields.{GY}
use Rattle.drawing_pixel.specs.WindowFormulas.{window_left}
use Rattle.drawing_pixel.specs.SourceFormulas.{source_x, source_y}
use Rattle.drawing_pixel.specs.Pixel.{cell_address, object_row}
use Rattle.drawing_laws.specs.Covers.{covering_worlds_of, covering_objects_of}

-- the two bytes of the halfword at an address
abbrev pub half_bytes_of : ℕ → List ℕ
half_bytes_of a = a ∷ (a + 1) ∷ []

-- the ten bytes of the five affine parameters of row j: MX, MP, MY, DX, DY
unfoldable pub affine_bytes_of : List ℕ → ℕ → List ℕ
affine_bytes_of w j = flat_map (λ k. half_bytes_of (parameter_address_of w (8 * j + k))) (0 ∷ 1 ∷ 2 ∷ 3 ∷ 4 ∷ [])

-- the parameter bytes of row j, by BGM: none for a normal world, 2 for H-bias, 10 for affine
unfoldable pub parameter_bytes_of : List ℕ → ℕ → ℕ → List ℕ
parameter_bytes_of w eye j =
    pick (eqb (bgm_of w) 0) []
    (pick (eqb (bgm_of w) 1) (half_bytes_of (parameter_address_of w (bias_index_of eye j))) (affine_bytes_of w j))

-- a source pixel's cell (2 bytes, the overplane's where that is used) and the character row that the cell leads to (2)
abbrev pub cell_bytes : List ℕ → List ℕ → ℤ → ℤ → List ℕ
cell_bytes vram w x y =
    half_bytes_of (cell_address w x y)
    ++ half_bytes_of (row_address_of (half_at vram (cell_address w x y)) (above_zero (mod_z y 8)))

-- the bytes of a background world that covers the pixel; i = x - (GX -/+ GP) and j = y - GY
abbrev pub background_bytes : (vram w : List ℕ) (eye x y : ℕ) → List ℕ
background_bytes vram w eye x y =
    let i = above_zero (pos x -ℤ window_left w eye) in
    let j = above_zero (pos y -ℤ GY w) in
    parameter_bytes_of w eye j ++ cell_bytes vram w (source_x vram w eye i j) (source_y vram w eye i j)

-- the character row of an object that covers the pixel
abbrev pub object_bytes : List ℕ → ℕ → List ℕ
object_bytes o y = half_bytes_of (row_address_of (get_or o 3 0) (above_zero (object_row o y)))

-- the bytes that the pixel at column x and row y of an eye's image answers to
unfoldable pub pixel_bytes_of : (vram regs : List ℕ) (eye x y : ℕ) → List ℕ
pixel_bytes_of vram regs eye x y =
    flat_map (λ n. background_bytes vram (world_of vram n) eye x y) (covering_worlds_of vram eye x y)
    ++ flat_map (λ k. object_bytes (object_of vram k) y) (covering_objects_of vram regs eye x y)
