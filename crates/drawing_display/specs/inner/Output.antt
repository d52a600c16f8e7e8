-- Inner: the output buffer while it is filled, strip by strip and in a strip column by column.
use Rattle.std.specs.Prelude.{ℕ, ◌+◌, ◌-◌, ◌*◌, ◌/◌, ◌%◌, ◌<◌, ◌≡◌, List, length, get_or}
use Rattle.word.specs.LittleEndian.{half_at}
use Rattle.drawing_pixel.specs.Character.{two_bits_of}
use Rattle.drawing_display.specs.Brightness.{repeats_of, lamp_level_of}
use Rattle.drawing_display.specs.declared.Durations.{Durations}

-- the first n levels: that of shade v in columns 4g to 4g + 3 stands at 4g + v
pub record Levels (vram : List ℕ) (d : Durations) (table start n : ℕ) (levels : List ℕ) : Type 0 where
  pub size : length levels ≡ 384
  pub each :
      (k : ℕ) → k < n → get_or levels k 0 ≡ lamp_level_of d (k % 4) (repeats_of (half_at vram (table + 2 * (start - k / 4))))

-- the level of pixel (x, y) of the image that begins at `base`
unfoldable pub pixel_in : (vram levels : List ℕ) (base x y : ℕ) → ℕ
pixel_in vram levels base x y = get_or levels (x - x % 4 + two_bits_of (half_at vram (base + 64 * x + 2 * (y / 8))) (y % 8)) 0

-- n pixels stand from byte `at` down, one a row, and nothing else changed
pub record Column (at n : ℕ) (f : ℕ → ℕ) (before after : List ℕ) : Type 0 where
  pub size : length after ≡ length before
  pub inside : (r : ℕ) → r < n → get_or after (at + 384 * r) 0 ≡ f r
  pub others : (i : ℕ) → ((r : ℕ) → r < n → i ≡ at + 384 * r → ⊥) → get_or after i 0 ≡ get_or before i 0

-- columns 0 to n - 1 of a strip stand in the buffer, and the strips before it are kept
pub record Columns (strip n : ℕ) (f : ℕ → ℕ → ℕ) (before after : List ℕ) : Type 0 where
  pub size : length after ≡ length before
  pub inside : (x r : ℕ) → x < n → r < 8 → get_or after (384 * (8 * strip + r) + x) 0 ≡ f x (8 * strip + r)
  pub before_kept : (i : ℕ) → i < 3072 * strip → get_or after i 0 ≡ get_or before i 0

-- strips 0 to n - 1 stand in the buffer
pub record Strips (n : ℕ) (f : ℕ → ℕ → ℕ) (output : List ℕ) : Type 0 where
  pub size : length output ≡ 86016
  pub inside : (x y : ℕ) → x < 384 → y < 8 * n → get_or output (384 * y + x) 0 ≡ f x y
