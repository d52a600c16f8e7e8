-- Images, strips and frames (paper 01, "Drawing"): where a pixel stands in VRAM, and all of VRAM after a strip
-- or a frame was drawn. The crate drawing_laws says in theorems what the two lists hold (Drawn).
use Rattle.std.specs.Prelude.{ℕ, zero, suc, ◌+◌, ◌*◌, ◌/◌, ◌%◌, Bool, ◌&&◌, List, length, get_or, eqb, ltb}
use Rattle.word.specs.Choose.{pick}
use Rattle.word.specs.LittleEndian.{half_at}
use Rattle.drawing_pixel.specs.Lists.{list_of}
use Rattle.drawing_pixel.specs.Character.{two_bits_of}
use Rattle.drawing_pixel.specs.Pixel.{pixel_of}

-- where the image of a frame and an eye begins; it is 24,576 bytes long
unfoldable pub image_of : ℕ → ℕ → ℕ
image_of frame eye = 0x8000 * frame + 0x10000 * eye

-- pixel (x, y) of an image: the halfword at 64x + 2(y / 8), and there pair y mod 8: bits 2(y mod 8) and the next
abbrev pub pixel_offset_of : ℕ → ℕ → ℕ
pixel_offset_of x y = 64 * x + 2 * (y / 8)

abbrev pub pixel_pair_of : ℕ → ℕ
pixel_pair_of y = y % 8

-- pixel (x, y) as it stands in an image
unfoldable pub stored_pixel_of : (vram : List ℕ) (frame eye x y : ℕ) → ℕ
stored_pixel_of vram frame eye x y = two_bits_of (half_at vram (image_of frame eye + pixel_offset_of x y)) (pixel_pair_of y)

-- whether an address lies in one of a frame's two images
unfoldable pub in_images_of : ℕ → ℕ → Bool
in_images_of frame a = (ltb a 0x20000 && eqb (a / 0x8000 % 2) frame) && ltb (a % 0x8000) 0x6000

-- whether it holds pixels of a strip there: a column is 32 halfwords, one a strip
unfoldable pub in_strip_of : ℕ → ℕ → ℕ → Bool
in_strip_of frame strip a = in_images_of frame a && eqb (a % 64 / 2) strip

-- four pixels of a column, from row y down, as a byte
unfoldable pub four_pixels_of : (vram regs : List ℕ) (eye x y : ℕ) → ℕ
four_pixels_of vram regs eye x y =
    pixel_of vram regs eye x y
    + 4 * pixel_of vram regs eye x (y + 1)
    + 16 * pixel_of vram regs eye x (y + 2)
    + 64 * pixel_of vram regs eye x (y + 3)

-- the byte at an address after a strip was drawn
unfoldable pub strip_byte_of : (vram regs : List ℕ) (frame strip a : ℕ) → ℕ
strip_byte_of vram regs frame strip a =
    pick (in_strip_of frame strip a)
    (four_pixels_of vram regs (a / 0x10000) (a % 0x8000 / 64) (8 * strip + 4 * (a % 2)))
    (get_or vram a 0)

-- VRAM after a strip was drawn, worked out whole from VRAM as it was
unfoldable pub strip_of : List ℕ → List ℕ → ℕ → ℕ → List ℕ
strip_of vram regs frame strip = list_of (length vram) 0 (strip_byte_of vram regs frame strip)

-- VRAM after strips 0 to n - 1 were drawn, one after the other
unfoldable pub strips_of : List ℕ → List ℕ → ℕ → ℕ → List ℕ
strips_of vram regs frame zero = vram
strips_of vram regs frame (suc n) = strip_of (strips_of vram regs frame n) regs frame n

-- VRAM after a frame was drawn: strips 0 to 27
unfoldable pub frame_of : List ℕ → List ℕ → ℕ → List ℕ
frame_of vram regs frame = strips_of vram regs frame 28
