-- What the two calls of the display unit leave (paper 02, W11), and the rules of the recommended table: the statements.
-- Their proofs are `brightness-at`, `table-loaded`, `table-mirrored`, `table-falls` and `high-bytes-clear` in proofs/.
use Rattle.std.specs.Prelude.{ℕ, ◌+◌, ◌-◌, ◌*◌, ◌/◌, ◌<◌, ◌≤◌, min, false, List, ◌≡◌, length, get_or, Ok}
use Rattle.drawing_pixel.specs.Strip.{stored_pixel_of}
use Rattle.drawing_display.specs.Brightness.{time_of, table_entry_of}
use Rattle.drawing_display.specs.ColumnTable.{column_table, in_tables_of}
use Rattle.drawing_display.specs.Calls.{display_verdict_of, display_of, load_table_of}
use Rattle.drawing_display.specs.declared.View.{View}
use Rattle.drawing_display.specs.declared.Durations.{Durations}

-- after an accepted call byte 384y + x is the lesser of 128 and the time of the pixel's shade times its column's
-- repeats: the high byte, at 0x3DC01 (left) or 0x3DE01 (right) plus 2(start - x / 4), and 1
abbrev pub BrightnessAt : Type 0
BrightnessAt =
    (vram output : List ℕ) (view : View) (d : Durations) (x y : ℕ) → display_verdict_of vram view output ≡ (Ok tt)
    → ((a : ℕ) → get_or vram a 0 < 256)
    → x < 384
    → y < 224
    → get_or (display_of vram view d output) (384 * y + x) 0
    ≡ min 128
    (time_of d (stored_pixel_of vram view.frame view.eye x y)
    * (get_or vram (0x3DC01 + 0x200 * view.eye + 2 * (view.start - x / 4)) 0 + 1))

-- after loading, entry e of either eye is the table's, and every byte outside 0x3DC00 to 0x3DFFF is kept
pub record Loads (vram : List ℕ) : Type 0 where
  pub entries : (eye e : ℕ) → eye < 2 → e < 256 → table_entry_of (load_table_of vram) eye e ≡ get_or column_table e 0
  pub others : (a : ℕ) → in_tables_of a ≡ false → get_or (load_table_of vram) a 0 ≡ get_or vram a 0
  pub size : length (load_table_of vram) ≡ length vram

abbrev pub TableLoaded : Type 0
TableLoaded = (vram : List ℕ) → length vram ≡ 262144 → Loads vram

-- the rules of the table: entry i equals entry 255 - i, the first half never rises, and every high byte is 0
abbrev pub TableMirrored : Type 0
TableMirrored = (i : ℕ) → i < 256 → get_or column_table i 0 ≡ get_or column_table (255 - i) 0

abbrev pub TableFalls : Type 0
TableFalls = (i : ℕ) → i < 127 → get_or column_table (i + 1) 0 ≤ get_or column_table i 0

abbrev pub HighBytesClear : Type 0
HighBytesClear = (i : ℕ) → i < 256 → get_or column_table i 0 / 256 ≡ 0
