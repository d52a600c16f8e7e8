-- Backgrounds (paper 01, "Parameter k", "Background"): where a world's parameters stand, and which map is at a column
-- and row of maps. docs/DECISIONS.md has R1, R2 and R6: the maps side by side, their base, the right eye's parameter.
use Rattle.std.specs.Prelude.{ℕ, ◌+◌, ◌-◌, ◌*◌, ◌/◌, ◌%◌, ◌^◌, min, ◌≡◌, List, get_or, eqb, leb}
use Rattle.word.specs.Choose.{pick}
use Rattle.word.specs.LittleEndian.{half_at}
use Rattle.drawing_pixel.specs.World.{scx_of, scy_of, base_of}

-- where the background maps, and the parameters among them, begin in VRAM
abbrev pub map_table : ℕ
map_table = 0x20000

-- parameter k: halfword at 0x20000 + 2((base + k) mod 65,536)
unfoldable pub parameter_address_of : List ℕ → ℕ → ℕ
parameter_address_of w k = map_table + 2 * ((get_or w 9 0 + k) % 65536)

unfoldable pub parameter_of : List ℕ → List ℕ → ℕ → ℕ
parameter_of vram w k = half_at vram (parameter_address_of w k)

-- H-bias: the index of the parameter of an eye and a row
unfoldable pub bias_index_of : ℕ → ℕ → ℕ
bias_index_of eye j = pick (eqb eye 0) (2 * j) (2 * j + 1)

-- how many maps stand side by side before they repeat: 2^SCX, or 8 / 2^SCY in a background of more than 8 maps
unfoldable pub maps_across_of : List ℕ → ℕ
maps_across_of w = 2 ^ min (scx_of w) (3 - scy_of w)

-- R1: with R = 2^SCY rows and C = 2^SCX columns of maps, C where R * C ≤ 8, else 8 / R stand side by side before they
-- repeat
abbrev pub MapsAcross : Type 0
MapsAcross =
    (w : List ℕ) → maps_across_of w ≡ pick (leb (2 ^ scx_of w * 2 ^ scy_of w) 8) (2 ^ scx_of w) (8 / 2 ^ scy_of w)

-- the map at a map column and row, from the base on, in rows; 16 maps in all
unfoldable pub map_number_of : List ℕ → ℕ → ℕ → ℕ
map_number_of w column r = (base_of w + (r * maps_across_of w + column % maps_across_of w)) % 16
