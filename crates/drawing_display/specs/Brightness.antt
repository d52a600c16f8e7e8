-- The apparent brightness of a pixel (paper 02, W11): how long its shade lights a lamp, how often the column table
-- repeats that, and the lesser of their product and 128. A view names what is shown: frame, eye, and the entry of the
-- column table that the leftmost columns use; the durations are the brightness bytes BRTA, BRTB and BRTC.
use Rattle.std.specs.Prelude.{ℕ, ◌+◌, ◌-◌, ◌*◌, ◌/◌, min, List, eqb}
use Rattle.word.specs.Choose.{pick}
use Rattle.word.specs.LittleEndian.{half_at}
use Rattle.drawing_pixel.specs.Strip.{stored_pixel_of}
use Rattle.drawing_display.specs.declared.View.{View}
use Rattle.drawing_display.specs.declared.Durations.{Durations}

abbrev pub view_of : ℕ → ℕ → ℕ → View
view_of frame eye start = record { frame = frame; eye = eye; start = start }

abbrev pub durations_of : ℕ → ℕ → ℕ → Durations
durations_of brta brtb brtc = record { brta = brta; brtb = brtb; brtc = brtc }

-- entry e of an eye's column table: the halfword at 0x3DC00 + 2e (left) or 0x3DE00 + 2e (right)
unfoldable pub table_entry_of : List ℕ → ℕ → ℕ → ℕ
table_entry_of vram eye e = half_at vram (0x3DC00 + 0x200 * eye + 2 * e)

-- how often an entry repeats: its high byte plus 1
unfoldable pub repeats_of : ℕ → ℕ
repeats_of entry = entry / 256 + 1

-- how long a shade is lit: 0 is dark, 1 is BRTA, 2 is BRTB, 3 is their sum with BRTC, which does not wrap
unfoldable pub time_of : Durations → ℕ → ℕ
time_of d shade =
    pick (eqb shade 0) 0 (pick (eqb shade 1) d.brta (pick (eqb shade 2) d.brtb (d.brta + d.brtb + d.brtc)))

-- what a shade looks like where it is repeated: no brighter than 128
unfoldable pub lamp_level_of : Durations → ℕ → ℕ → ℕ
lamp_level_of d shade repeats = min 128 (time_of d shade * repeats)

-- the entry that column x uses: columns 4g to 4g + 3 use entry start - g
unfoldable pub column_entry_of : ℕ → ℕ → ℕ
column_entry_of start x = start - x / 4

-- the apparent brightness of pixel (x, y)
unfoldable pub brightness_of : (vram : List ℕ) (view : View) (d : Durations) (x y : ℕ) → ℕ
brightness_of vram view d x y =
    lamp_level_of d (stored_pixel_of vram view.frame view.eye x y)
    (repeats_of (table_entry_of vram view.eye (column_entry_of view.start x)))
