-- What the display unit's calls answer and leave, for every input (paper 02, W11): the refusals whose subject a call is
-- given, in their order, and the caller's buffer afterwards. A refusal changes nothing.
use Rattle.std.specs.Prelude.{ℕ, ◌/◌, ◌%◌, Bool, ◌&&◌, List, length, eqb, ltb, leb, Ok}
use Rattle.refusal.specs.Number.{unless, when_accepted, Verdict}
use Rattle.refusal.specs.declared.Refusal.TheVariants.{VramLength, Frame, Display}
use Rattle.bus.specs.Refusal.{vram_ok}
use Rattle.drawing_pixel.specs.Lists.{list_of}
use Rattle.drawing_display.specs.Brightness.{brightness_of}
use Rattle.drawing_display.specs.ColumnTable.{table_loaded_of}
use Rattle.drawing_display.specs.declared.View.{View}
use Rattle.drawing_display.specs.declared.Durations.{Durations}

-- 15: the eye is 0 or 1, start is from 95 to 255, and the output buffer has 86,016 bytes
unfoldable pub display_ok : View → ℕ → Bool
display_ok view output = ltb view.eye 2 && (leb 95 view.start && (ltb view.start 256 && eqb output 86016))

-- the display call's verdict: 3, 7, 15
unfoldable pub display_verdict_of : List ℕ → View → List ℕ → Verdict
display_verdict_of vram view output =
    unless (vram_ok (length vram)) VramLength
    (unless (ltb view.frame 2) Frame (unless (display_ok view (length output)) Display (Ok tt)))

-- what is shown: pixel (x, y) at byte 384y + x, 224 rows of 384
unfoldable pub shown_of : List ℕ → View → Durations → List ℕ
shown_of vram view d = list_of 86016 0 (λ i. brightness_of vram view d (i % 384) (i / 384))

-- the output buffer after the display call
unfoldable pub display_of : List ℕ → View → Durations → List ℕ → List ℕ
display_of vram view d output = when_accepted (display_verdict_of vram view output) output (shown_of vram view d)

-- the verdict of the call that loads the recommended table: 3
unfoldable pub load_table_verdict_of : List ℕ → Verdict
load_table_verdict_of vram = unless (vram_ok (length vram)) VramLength (Ok tt)

-- VRAM after that call
unfoldable pub load_table_of : List ℕ → List ℕ
load_table_of vram = when_accepted (load_table_verdict_of vram) vram (table_loaded_of vram)
