-- Where the listed addresses lie: in VRAM (`listed-in-vram`), and clear of every image (`listed-clear`).
-- Assumes nothing.
use Prim.Native.Nat.{ℕ, ◌+◌, ◌*◌, ◌/◌, ◌%◌, ◌^◌, ◌<◌, ◌≤◌}
use mathlib.Core.Bool.{Bool, true, false, ◌&&◌, not}
use mathlib.Core.List.{List}
use lib.ListN.{get_or}
use native.Mathlib.Omega.{arith}
use Rattle.word.proofs.Choices.{pick-each}
use Rattle.word.specs.Bit.{is_set}
use Rattle.drawing_pixel.specs.Character.{character_address_of, flipped_of, row_address_of}
use Rattle.drawing_pixel.specs.Lists.{list_of}
use Rattle.drawing_pixel.specs.World.{world_of, over_of, scx_of, scy_of}
use Rattle.drawing_pixel.specs.Background.{parameter_address_of, map_number_of}
use Rattle.drawing_pixel.specs.inner.BiasedCell.{inside_biased, map_cell_address_biased, cell_address_biased, source_cell_address_biased}
use Rattle.drawing_laws.specs.Demand3.{Each, ListedInVram}
use Rattle.drawing_laws.specs.PixelBytes.{half_bytes_of, pixel_bytes_of}
use Rattle.drawing_laws.proofs.ListedBytes.{listed-each}

-- an address is clear of every image: past the images, or in the last quarter of its 0x8000 bytes
abbrev pub Clear : ℕ → Type 0
Clear a = a < 0x20000 → 0x6000 ≤ a % 0x8000

flipped_below : (b : Bool) (r : ℕ) → r < 8 → flipped_of b r < 8
unfolding flipped_of
flipped_below true r h = omega arith
flipped_below false r h = h

row-clear : (cell r : ℕ) → r < 8 → Each Clear (half_bytes_of (row_address_of cell r))
unfolding row_address_of character_address_of
row-clear cell r h = let f : flipped_of (is_set 12 cell) r < 8 = flipped_below (is_set 12 cell) r h in omega arith

row-in-vram : (cell r : ℕ) → r < 8 → Each (λ a. a < 262144) (half_bytes_of (row_address_of cell r))
unfolding row_address_of character_address_of
row-in-vram cell r h = let f : flipped_of (is_set 12 cell) r < 8 = flipped_below (is_set 12 cell) r h in omega arith

parameter-clear : (w : List ℕ) (k : ℕ) → Each Clear (half_bytes_of (parameter_address_of w k))
unfolding parameter_address_of
parameter-clear w k = omega arith

parameter-in-vram : (w : List ℕ) (k : ℕ) → Each (λ a. a < 262144) (half_bytes_of (parameter_address_of w k))
unfolding parameter_address_of
parameter-in-vram w k = omega arith

map-number-below : (w : List ℕ) (c r : ℕ) → map_number_of w c r < 16
unfolding map_number_of
map-number-below w c r = omega arith

map-cell-from : (w : List ℕ) (u v : ℕ) → 0x20000 ≤ map_cell_address_biased w u v
unfolding map_cell_address_biased
map-cell-from w u v = omega arith

map-cell-below : (w : List ℕ) (u v : ℕ) → map_cell_address_biased w u v + 1 < 262144
unfolding map_cell_address_biased
map-cell-below w u v =
    let n : map_number_of w (u % 2 ^ (6 + scx_of w) / 64) (v % 2 ^ (6 + scy_of w) / 64) < 16 = map-number-below w _ _ in
    omega arith

cell-clear : (w : List ℕ) (sx sy : ℕ) → Each Clear (half_bytes_of (source_cell_address_biased w sx sy))
unfolding source_cell_address_biased cell_address_biased
cell-clear w sx sy =
    pick-each (λ (p : ℕ). Each Clear (half_bytes_of p)) (over_of w && not (inside_biased w (sx / 8) (sy / 8))) (0x20000 + 2 * get_or w 10 0)
    (map_cell_address_biased w (sx / 8) (sy / 8)) (omega arith)
    (omega (arith, map-cell-from w (sx / 8) (sy / 8)))

pub listed-clear : (vram regs : List ℕ) (eye x y : ℕ) → Each Clear (pixel_bytes_of vram regs eye x y)
listed-clear vram regs eye x y =
    listed-each Clear vram parameter-clear (λ n sx sy. cell-clear (world_of vram n) sx sy) row-clear regs eye x y

-- the overplane's number is a halfword where memory holds bytes
overplane-below : (vram : List ℕ) (n : ℕ) → ((a : ℕ) → get_or vram a 0 < 256) → get_or (world_of vram n) 10 0 < 65536
unfolding world_of list_of
overplane-below vram n h = omega (arith, h (0x3D800 + 32 * n + 20), h (0x3D800 + 32 * n + 20 + 1))

cell-in-vram : (vram : List ℕ) (n sx sy : ℕ) → ((a : ℕ) → get_or vram a 0 < 256)
    → Each (λ a. a < 262144) (half_bytes_of (source_cell_address_biased (world_of vram n) sx sy))
unfolding source_cell_address_biased cell_address_biased
cell-in-vram vram n sx sy h =
    let w = world_of vram n in
    let o : get_or (world_of vram n) 10 0 < 65536 = overplane-below vram n h in
    pick-each (λ (p : ℕ). Each (λ a. a < 262144) (half_bytes_of p)) (over_of w && not (inside_biased w (sx / 8) (sy / 8)))
    (0x20000 + 2 * get_or (world_of vram n) 10 0)
    (map_cell_address_biased w (sx / 8) (sy / 8)) (omega arith)
    (omega (arith, map-cell-below w (sx / 8) (sy / 8)))

pub listed-in-vram : ListedInVram
listed-in-vram vram regs eye x y h =
    listed-each (λ a. a < 262144) vram parameter-in-vram (λ n sx sy. cell-in-vram vram n sx sy h) row-in-vram regs eye x y
