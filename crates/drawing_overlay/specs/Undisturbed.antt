-- The probe leaves the program's pixels alone (paper 02, W9): the statement. Its proof is `undisturbed` in proofs/.
-- The first memory is VRAM before the first drawing, and the byte list is worked out there (paper 01, "The bytes a
-- pixel answers to"); the second is VRAM before the second drawing, after the first one and the probe's writes.
use Rattle.std.specs.Prelude.{ℕ, ◌/◌, ◌<◌, true, false, List, ◌≡◌, Ok}
use Rattle.drawing_pixel.specs.Strip.{stored_pixel_of}
use Rattle.drawing_laws.specs.Demand3.{Each}
use Rattle.drawing_laws.specs.Drawn.{Call, call_verdict_of, draws_strip_of, drawn_by}
use Rattle.drawing_laws.specs.PixelBytes.{pixel_bytes_of}
use Rattle.bus_probe.specs.Probe.{in_ranges_of}
use Rattle.bus_probe.specs.Kept.{Write, all_written_of}

-- an address that the probe never writes
abbrev pub Outside : ℕ → Type 0
Outside a = in_ranges_of a ≡ false

-- a pixel that two drawings of one frame draw, and whose listed bytes are outside the probe's ranges, is the same after
-- the second, whatever the probe wrote between them
abbrev pub Undisturbed : Type 0
Undisturbed =
    (vram regs : List ℕ) (frame : ℕ) (one other : Call) (writes : List Write) (eye x y : ℕ)
    → call_verdict_of vram regs frame one ≡ (Ok tt)
    → call_verdict_of (all_written_of (drawn_by vram regs frame one) writes) regs frame other ≡ (Ok tt)
    → eye < 2
    → x < 384
    → draws_strip_of one (y / 8) ≡ true
    → draws_strip_of other (y / 8) ≡ true
    → Each Outside (pixel_bytes_of vram regs eye x y)
    → stored_pixel_of (drawn_by (all_written_of (drawn_by vram regs frame one) writes) regs frame other) frame eye x y
    ≡ stored_pixel_of (drawn_by vram regs frame one) frame eye x y
