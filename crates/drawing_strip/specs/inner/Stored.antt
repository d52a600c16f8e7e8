-- Inner: a strip held in an array while it is stored into VRAM.
use Rattle.std.specs.Prelude.{ℕ, ◌+◌, ◌*◌, ◌/◌, ◌%◌, ◌^◌, ◌<◌, ◌≤◌, ◌≡◌, List, length, get_or}
use Rattle.drawing_pixel.specs.Character.{two_bits_of}
use Rattle.drawing_pixel.specs.Pixel.{pixel_of}

-- byte b, 0 or 1, of a halfword
unfoldable pub column_byte_of : ℕ → ℕ → ℕ
column_byte_of h b = h / 256 ^ b % 256

-- whether an offset of an image lies in a strip
abbrev pub InStrip : ℕ → ℕ → Type 0
InStrip strip o = o % 64 / 2 ≡ strip

-- columns 0 to n - 1 of a strip were stored into the image that begins at `base`, and no other byte changed
pub record Stored (base strip n : ℕ) (columns before after : List ℕ) : Type 0 where
  pub size : length after ≡ length before
  pub inside :
      (o : ℕ) → o < 64 * n → InStrip strip o → get_or after (base + o) 0 ≡ column_byte_of (get_or columns (o / 64) 0) (o % 2)
  pub beside : (o : ℕ) → o < 64 * n → (InStrip strip o → ⊥) → get_or after (base + o) 0 ≡ get_or before (base + o) 0
  pub below : (a : ℕ) → a < base → get_or after a 0 ≡ get_or before a 0
  pub above : (a : ℕ) → base + 64 * n ≤ a → get_or after a 0 ≡ get_or before a 0

-- the columns hold the pixels of an eye's strip
pub record Worked (vram regs : List ℕ) (eye strip : ℕ) (columns : List ℕ) : Type 0 where
  pub pixels : (x r : ℕ) → x < 384 → r < 8 → two_bits_of (get_or columns x 0) r ≡ pixel_of vram regs eye x (8 * strip + r)
