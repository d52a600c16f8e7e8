-- The bytes of VRAM after a strip was drawn: their number, the byte at an address, and those outside the strip.
-- Assumes nothing.
use Prim.Native.Nat.{ℕ, ◌+◌, ◌*◌, ◌/◌, ◌%◌, ◌<◌, ◌≤◌}
use mathlib.Core.Bool.{true, false}
use mathlib.Core.List.{List}
use mathlib.Core.Path.{◌≡◌, sym, ◌∙◌}
use native.Mathlib.Decide.{dec_lt}
use native.Mathlib.Omega.{arith}
use lib.ListN.{length, get_or, get_or-eq_default}
use Rattle.drawing_pixel.proofs.Lists.{length-list, get_or-list}
use Rattle.drawing_pixel.specs.Strip.{in_strip_of, strip_byte_of, four_pixels_of, strip_of}

pub length-strip : (vram regs : List ℕ) (frame s : ℕ) → length (strip_of vram regs frame s) ≡ length vram
unfolding strip_of
length-strip vram regs frame s = length-list (length vram) 0 (strip_byte_of vram regs frame s)

pub strip-at : (vram regs : List ℕ) (frame s a : ℕ) → a < length vram → get_or (strip_of vram regs frame s) a 0 ≡ strip_byte_of vram regs frame s a
unfolding strip_of
strip-at vram regs frame s a h =
    get_or-list (length vram) 0 (strip_byte_of vram regs frame s) a h

-- a byte that holds no pixel of the strip
pub strip-kept : (vram regs : List ℕ) (frame s a : ℕ) → in_strip_of frame s a ≡ false → get_or (strip_of vram regs frame s) a 0 ≡ get_or vram a 0
unfolding strip_byte_of
strip-kept vram regs frame s a e =
    elim (dec_lt a (length vram)) [
      | yes h ↦ strip-at vram regs frame s a h ∙ rw e
      | no n ↦ past (omega arith)
    ]
  where
    past : length vram ≤ a → get_or (strip_of vram regs frame s) a 0 ≡ get_or vram a 0
    past l =
        get_or-eq_default (strip_of vram regs frame s) 0 (rw (length-strip vram regs frame s) l)
        ∙ sym (get_or-eq_default vram 0 l)

-- a byte that holds four of its pixels
pub strip-drawn : (vram regs : List ℕ) (frame s a : ℕ) → a < length vram → in_strip_of frame s a ≡ true
    → get_or (strip_of vram regs frame s) a 0 ≡ four_pixels_of vram regs (a / 0x10000) (a % 0x8000 / 64) (8 * s + 4 * (a % 2))
unfolding strip_byte_of
strip-drawn vram regs frame s a h e = strip-at vram regs frame s a h ∙ rw e
