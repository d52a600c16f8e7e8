-- Demand 3 (paper 01, "The bytes a pixel answers to"): the statements. Their proofs are `answerable`, `few`,
-- `listed-length`, `pixel-outside-images` and `listed-in-vram` in proofs/. Memories are lists of 262,144 numbers; that
-- they are bytes is assumed only where it is said.
use Rattle.std.specs.Prelude.{ℕ, ◌+◌, ◌*◌, ◌/◌, ◌≤◌, ◌<◌, true, false, ◌≡◌, length, get_or, eqb, Ok}
use mathlib.Core.List.{List, [], ◌∷◌, foldr}
use Rattle.word.specs.Choose.{pick}
use Rattle.bus.specs.Refusal.{vram_bytes}
use Rattle.bus.specs.Registers.{drawing_ok}
use Rattle.drawing_pixel.specs.World.{world_of, world_table, bgm_of}
use Rattle.drawing_pixel.specs.Object.{object_table}
use Rattle.drawing_pixel.specs.Pixel.{pixel_of}
use Rattle.drawing_pixel.specs.Strip.{stored_pixel_of}
use Rattle.drawing_laws.specs.Drawn.{Call, call_verdict_of, draws_strip_of, drawn_by}
use Rattle.drawing_pixel.specs.Strip.{in_images_of}
use Rattle.drawing_laws.specs.Covers.{covering_worlds_of, covering_objects_of}
use Rattle.drawing_laws.specs.PixelBytes.{pixel_bytes_of}

-- something holds of each number of a list
abbrev pub Each : (ℕ → Type 0) → List ℕ → Type 0
Each P [] = Unit {0}
Each P (a ∷ rest) = P a × Each P rest

-- two memories hold the same byte at an address
abbrev pub SameByte : List ℕ → List ℕ → ℕ → Type 0
SameByte first second a = get_or second a 0 ≡ get_or first a 0

-- the tables, 32 world records of 32 bytes and 1,024 object records of 8, are the same in two memories
pub record SameTables (first second : List ℕ) : Type 0 where
  pub worlds : (a : ℕ) → world_table ≤ a → a < world_table + 32 * 32 → SameByte first second a
  pub objects : (a : ℕ) → object_table ≤ a → a < object_table + 1024 * 8 → SameByte first second a

-- a pixel that both calls draw, neither refused, is the same after them where tables and listed bytes were the same
-- before them
abbrev pub Answerable : Type 0
Answerable =
    (first second regs : List ℕ) (frame : ℕ) (one other : Call) (eye x y : ℕ)
    → call_verdict_of first regs frame one ≡ (Ok tt)
    → call_verdict_of second regs frame other ≡ (Ok tt)
    → eye < 2
    → x < 384
    → draws_strip_of one (y / 8) ≡ true
    → draws_strip_of other (y / 8) ≡ true
    → SameTables first second
    → Each (SameByte first second) (pixel_bytes_of first regs eye x y)
    → stored_pixel_of (drawn_by second regs frame other) frame eye x y
    ≡ stored_pixel_of (drawn_by first regs frame one) frame eye x y

-- the list is short: at most 14 bytes for each covering background world, 2 for each covering object
abbrev pub Few : Type 0
Few =
    (vram regs : List ℕ) (eye x y : ℕ)
    → length (pixel_bytes_of vram regs eye x y) ≤ 14 * length (covering_worlds_of vram eye x y)
    + 2 * length (covering_objects_of vram regs eye x y)

-- how many bytes a background world has: its cell and character row, and 2 parameter bytes for H-bias, 10 for affine
abbrev pub world_bytes_count_of : List ℕ → ℕ
world_bytes_count_of w = pick (eqb (bgm_of w) 0) 4 (pick (eqb (bgm_of w) 1) 6 14)

-- and exactly that long: 4 for each covering normal world, 6 for H-bias, 14 for affine, 2 for each covering object
abbrev pub ListedLength : Type 0
ListedLength =
    (vram regs : List ℕ) (eye x y : ℕ)
    → length (pixel_bytes_of vram regs eye x y)
    ≡ foldr (λ n sum. world_bytes_count_of (world_of vram n) + sum) 0 (covering_worlds_of vram eye x y)
    + 2 * length (covering_objects_of vram regs eye x y)

-- memories that agree outside a frame's images have the same pixels
abbrev pub PixelOutsideImages : Type 0
PixelOutsideImages =
    (first second regs : List ℕ) (frame eye x y : ℕ) → drawing_ok regs ≡ true
    → ((a : ℕ) → in_images_of frame a ≡ false → SameByte first second a)
    → pixel_of second regs eye x y ≡ pixel_of first regs eye x y

-- each listed address is one of VRAM, where memory holds bytes
abbrev pub ListedInVram : Type 0
ListedInVram =
    (vram regs : List ℕ) (eye x y : ℕ) → ((a : ℕ) → get_or vram a 0 < 256)
    → Each (λ a. a < vram_bytes) (pixel_bytes_of vram regs eye x y)
