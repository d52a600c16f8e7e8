-- What the strip call and the frame call leave in VRAM (paper 01, "Drawing"): the statements. Their proofs are
-- `pixel-drawn`, `byte-kept`, `length-kept`, `column-bytes` and `other-bytes` in proofs/. VRAM after a call is the list
-- that the call's contract names.
use Rattle.refusal.specs.Number.{Verdict}
use Rattle.std.specs.Prelude.{ℕ, ◌+◌, ◌*◌, ◌/◌, ◌%◌, ◌<◌, Bool, true, false, ◌&&◌, List, ◌≡◌, length, get_or, eqb, ltb, Ok}
use Rattle.drawing_pixel.specs.Pixel.{pixel_of}
use Rattle.bus.specs.Refusal.{vram_bytes}
use Rattle.drawing_pixel.specs.Strip.{image_of, pixel_offset_of, stored_pixel_of, in_images_of, four_pixels_of, strip_of}
use Rattle.drawing.specs.Calls.{strip_verdict_of, frame_verdict_of, draw_strip_of, draw_frame_of}

-- a call that draws: the frame call, or the strip call with its strip number
pub data Call : Type 0 where
  frame_call : Call
  strip_call : ℕ → Call

-- the call's own verdict
unfoldable pub call_verdict_of : List ℕ → List ℕ → ℕ → Call → Verdict
call_verdict_of vram regs frame frame_call = frame_verdict_of vram regs frame
call_verdict_of vram regs frame (strip_call own) = strip_verdict_of vram regs frame own

-- whether a call draws a strip: the frame call 0 to 27, the strip call its own
unfoldable pub draws_strip_of : Call → ℕ → Bool
draws_strip_of frame_call s = ltb s 28
draws_strip_of (strip_call own) s = eqb s own

-- VRAM after a call
unfoldable pub drawn_by : List ℕ → List ℕ → ℕ → Call → List ℕ
drawn_by vram regs frame frame_call = draw_frame_of vram regs frame
drawn_by vram regs frame (strip_call own) = draw_strip_of vram regs frame own

-- a drawn pixel, as it stands after the call, is the pixel of memory as it was before it
abbrev pub PixelDrawn : Type 0
PixelDrawn =
    (vram regs : List ℕ) (frame : ℕ) (call : Call) (eye x y : ℕ) → call_verdict_of vram regs frame call ≡ (Ok tt)
    → eye < 2
    → x < 384
    → draws_strip_of call (y / 8) ≡ true
    → stored_pixel_of (drawn_by vram regs frame call) frame eye x y ≡ pixel_of vram regs eye x y

-- a byte outside the frame's images, or of a strip that is not drawn, is kept; a column is 32 halfwords, one a strip
abbrev pub ByteKept : Type 0
ByteKept =
    (vram regs : List ℕ) (frame : ℕ) (call : Call) (a : ℕ)
    → (in_images_of frame a && draws_strip_of call (a % 64 / 2)) ≡ false
    → get_or (drawn_by vram regs frame call) a 0 ≡ get_or vram a 0

-- VRAM keeps its length
abbrev pub LengthKept : Type 0
LengthKept =
    (vram regs : List ℕ) (frame : ℕ) (call : Call) → length (drawn_by vram regs frame call) ≡ length vram

-- a strip's bytes by 01's formula, "halfword at 64x + 2(y / 8)": the halfword of column x at the strip's first row has
-- the strip's first four rows in its byte 0 and the other four in its byte 1
abbrev pub ColumnBytes : Type 0
ColumnBytes =
    (vram regs : List ℕ) (frame strip eye column b : ℕ) → length vram ≡ vram_bytes
    → frame < 2
    → strip < 28
    → eye < 2
    → column < 384
    → b < 2
    → get_or (strip_of vram regs frame strip) (image_of frame eye + pixel_offset_of column (8 * strip) + b) 0
    ≡ four_pixels_of vram regs eye column (8 * strip + 4 * b)

-- every other byte is kept: "stored into that part of VRAM alone"
abbrev pub OtherBytes : Type 0
OtherBytes =
    (vram regs : List ℕ) (frame strip a : ℕ)
    → ((eye x b : ℕ) → eye < 2 → x < 384 → b < 2 → a ≡ image_of frame eye + pixel_offset_of x (8 * strip) + b → ⊥)
    → get_or (strip_of vram regs frame strip) a 0 ≡ get_or vram a 0
