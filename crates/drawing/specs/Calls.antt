-- What the drawing calls answer and leave, for every input (paper 01, "Refusal numbers" and "Drawing"): the refusals
-- whose subject a call is given, lowest number first, and VRAM afterwards. A refusal changes nothing.
use Rattle.std.specs.Prelude.{ℕ, List, [], length, take, drop, ltb, Ok}
use Rattle.bus.specs.Refusal.{vram_ok}
use Rattle.refusal.specs.Number.{unless, when_accepted, Verdict}
use Rattle.bus.specs.Registers.{drawing_ok}
use Rattle.refusal.specs.declared.Refusal.TheVariants.{VramLength, State, Frame, Index}
use Rattle.drawing_pixel.specs.Character.{character_address_of}
use Rattle.drawing_pixel.specs.Strip.{strip_of, frame_of}

-- the tests that calls share, by themselves: 3, and 3 before 5
abbrev pub length_verdict_of : List ℕ → Verdict
length_verdict_of vram = unless (vram_ok (length vram)) VramLength (Ok tt)

abbrev pub state_verdict_of : List ℕ → List ℕ → Verdict
state_verdict_of vram regs = unless (vram_ok (length vram)) VramLength (unless (drawing_ok regs) State (Ok tt))

-- the strip call's verdict: 3, 5, 7, 8
unfoldable pub strip_verdict_of : List ℕ → List ℕ → ℕ → ℕ → Verdict
strip_verdict_of vram regs frame strip =
    unless (vram_ok (length vram)) VramLength
    (unless (drawing_ok regs) State (unless (ltb frame 2) Frame (unless (ltb strip 28) Index (Ok tt))))

-- VRAM after the strip call
unfoldable pub draw_strip_of : List ℕ → List ℕ → ℕ → ℕ → List ℕ
draw_strip_of vram regs frame strip =
    when_accepted (strip_verdict_of vram regs frame strip) vram (strip_of vram regs frame strip)

-- the frame call's verdict: 3, 5, 7
unfoldable pub frame_verdict_of : List ℕ → List ℕ → ℕ → Verdict
frame_verdict_of vram regs frame =
    unless (vram_ok (length vram)) VramLength (unless (drawing_ok regs) State (unless (ltb frame 2) Frame (Ok tt)))

-- VRAM after the frame call
unfoldable pub draw_frame_of : List ℕ → List ℕ → ℕ → List ℕ
draw_frame_of vram regs frame = when_accepted (frame_verdict_of vram regs frame) vram (frame_of vram regs frame)

-- the character lookup's verdict: 3, 8
unfoldable pub character_verdict_of : List ℕ → ℕ → Verdict
character_verdict_of vram c = unless (vram_ok (length vram)) VramLength (unless (ltb c 2048) Index (Ok tt))

-- a character's 16 bytes, none where refused
unfoldable pub character_of : List ℕ → ℕ → List ℕ
character_of vram c = when_accepted (character_verdict_of vram c) [] (take 16 (drop (character_address_of c) vram))
