-- Memories that agree outside the images of a frame have the same pixels (`pixel-outside-images`). Assumes nothing.
use Prim.Native.Nat.{ℕ, ◌/◌, ◌%◌}
use mathlib.Core.Bool.{Bool, true, false, ◌&&◌, and-false}
use mathlib.Core.List.{List}
use mathlib.Core.Path.{◌≡◌, refl}
use lib.Dec.{eqb, ltb}
use native.Mathlib.Omega.{arith}
use borrow.Author.Tests.{ltb-true, le-ltb}
use Rattle.drawing_laws.specs.Demand3.{SameByte, SameTables, PixelOutsideImages}
use Rattle.drawing_pixel.specs.Strip.{in_images_of}
use Rattle.drawing_laws.specs.PixelBytes.{pixel_bytes_of}
use Rattle.drawing_laws.proofs.Each.{each_map}
use Rattle.drawing_laws.proofs.PixelBytes.{listed-formula}
use Rattle.drawing_laws.proofs.Registers.{spt-below}
use Rattle.drawing_laws.proofs.ListedAddresses.{Clear, listed-clear}
use Rattle.drawing_laws.proofs.PixelSame.{pixel-same}

-- an address that is clear of every image lies in none of the frame's
pub clear-outside : (frame a : ℕ) → Clear a → in_images_of frame a ≡ false
unfolding in_images_of
clear-outside frame a c = go (ltb a 0x20000) refl
  where
    go : (b : Bool) → ltb a 0x20000 ≡ b → ((b && eqb (a / 0x8000 % 2) frame) && ltb (a % 0x8000) 0x6000) ≡ false
    go true e = rw (le-ltb (a % 0x8000) 0x6000 (c (ltb-true a 0x20000 e))) (and-false (eqb (a / 0x8000 % 2) frame))
    go false e = refl

-- the tables stand past the images
pub tables-outside : (first second : List ℕ) (frame : ℕ) → ((a : ℕ) → in_images_of frame a ≡ false → SameByte first second a)
    → SameTables first second
tables-outside first second frame h =
    record {
      worlds = λ a l _. h a (clear-outside frame a (omega arith));
      objects = λ a l _. h a (clear-outside frame a (omega arith));
    }

pub pixel-outside-images : PixelOutsideImages
pixel-outside-images first second regs frame eye x y ok h =
    pixel-same first second (tables-outside first second frame h) regs (spt-below regs ok) eye x y
    (rw (listed-formula first regs eye x y ok)
    (each_map Clear (SameByte first second) (pixel_bytes_of first regs eye x y) (λ a c. h a (clear-outside frame a c))
    (listed-clear first regs eye x y)))
