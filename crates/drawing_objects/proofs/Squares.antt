-- An object's square clipped to the image and to a strip, as the painter computes it, gives what the object makes of each
-- pixel. Assumes nothing.
use Prim.Native.Nat.{ℕ, ◌+◌, ◌-◌, ◌*◌, ◌/◌, ◌%◌, ◌<◌, ◌≤◌, min}
use native.Mathlib.Omega.{arith}
use native.Mathlib.Decide.{dec_lt}
use mathlib.Core.Path.{◌≡◌, sym, ◌∙◌}
use mathlib.Core.Bool.{true}
use mathlib.Core.List.{List}
use lib.ListN.{get_or}
use Rattle.word.specs.LittleEndian.{half_at}
use Rattle.bus.specs.Registers.{jplt_of}
use Rattle.drawing_pixel.specs.Character.{shade_of, pixel_value_of, row_address_of, cell_pixel_of}
use Rattle.drawing_pixel.specs.Lists.{list_of}
use Rattle.drawing_pixel.specs.Object.{object_of, object_shown_of}
use Rattle.drawing_pixel.specs.inner.BiasedObject.{object_row_biased, object_left_biased, object_pixel_biased}
use Rattle.drawing_pixel.proofs.Windows.{object-inside, object-left, object-right, object-outside-rows}

-- a column of a row that is in the square, from the object's halfwords as they were read
pub square-inside : (vram regs o : List ℕ) (eye x y v from cell row pixels palette left : ℕ) → object_shown_of o eye ≡ true
    → row ≡ object_row_biased o y → row < 8 → left ≡ object_left_biased o eye → left ≤ from + 1024 → from ≤ x → x + 1024 < left + 8
    → cell ≡ get_or o 3 0 → pixels ≡ half_at vram (row_address_of cell row) → palette ≡ get_or regs (8 + cell / 16384) 0
    → shade_of palette (pixel_value_of cell pixels (from + 1024 - left + (x - from))) v ≡ object_pixel_biased vram regs o eye x y v
unfolding cell_pixel_of jplt_of
square-inside vram regs o eye x y v from cell row pixels palette left s e h a l m r f g p =
    let d : from + 1024 - left + (x - from) ≡ x + 1024 - left = omega arith in
    rw d
    (sym
    (object-inside vram regs o eye x y v s (rw e at h) (omega arith) (omega arith)
    ∙ rw (← a, ← e, ← f, ← g, ← p)))

-- the columns outside the clipped square are kept
pub square-outside : (vram regs o : List ℕ) (eye x y v from to : ℕ) → x < 384
    → from ≡ min (object_left_biased o eye) 1408 - 1024 → to ≡ min (object_left_biased o eye + 8) 1408 - 1024
    → (x < from → object_pixel_biased vram regs o eye x y v ≡ v) × (to ≤ x → object_pixel_biased vram regs o eye x y v ≡ v)
square-outside vram regs o eye x y v from to h e f = (
  (λ l. object-left vram regs o eye x y v (omega arith)),
  (λ l. object-right vram regs o eye x y v (omega arith)),
)

-- a square with no column left keeps every pixel
pub square-empty : (vram regs o : List ℕ) (eye x y v from to : ℕ) → x < 384
    → from ≡ min (object_left_biased o eye) 1408 - 1024 → to ≡ min (object_left_biased o eye + 8) 1408 - 1024
    → to ≤ from → object_pixel_biased vram regs o eye x y v ≡ v
square-empty vram regs o eye x y v from to h e f n =
    elim (dec_lt x from) [
      | yes l ↦ (square-outside vram regs o eye x y v from to h e f).0 l
      | no m ↦ (square-outside vram regs o eye x y v from to h e f).1 (omega arith)
    ]

-- an object with no row in a strip keeps every pixel of it
pub square-far : (vram regs : List ℕ) (k eye x v strip r jy : ℕ) → strip < 28 → r < 8
    → jy ≡ half_at vram (253952 + 8 * k + 4) % 256 → 15 ≤ (8 * strip + 263 - jy) % 256
    → object_pixel_biased vram regs (object_of vram k) eye x (8 * strip + r) v ≡ v
unfolding object_row_biased object_of list_of
square-far vram regs k eye x v strip r jy h l e f = object-outside-rows vram regs (object_of vram k) eye x (8 * strip + r) v (omega arith)
