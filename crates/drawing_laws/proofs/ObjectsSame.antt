-- Objects make the same of a pixel in two memories with the same tables that hold the same at the character rows of
-- those that cover the pixel. Assumes nothing.
use Prim.Native.Nat.{ℕ, zero, suc, ◌<◌}
use mathlib.Core.Bool.{true}
use mathlib.Core.List.{List}
use mathlib.Core.Path.{◌≡◌, refl}
use lib.ListN.{get_or}
use lib.Dec.{eqb}
use native.Mathlib.Omega.{arith}
use borrow.Author.Tests.{eq-eqb}
use Rattle.bus.specs.Registers.{jplt_of}
use Rattle.drawing_pixel.specs.Object.{object_of, object_after_of}
use Rattle.drawing_pixel.specs.inner.BiasedObject.{object_row_biased, object_column_biased, object_covers_biased, object_pixel_biased, objects_pixel_biased}
use Rattle.drawing_laws.specs.Demand3.{Each, SameByte, SameTables}
use Rattle.drawing_laws.specs.inner.SourceBytes.{among_of, object_bytes_biased}
use Rattle.word.proofs.Choices.{pick_same, or_left, or_right}
use Rattle.drawing_laws.proofs.Halfwords.{object-same}
use Rattle.drawing_laws.proofs.BackgroundSame.{cell-pixel-same}

pub after-below : (k : ℕ) → object_after_of k < 1024
unfolding object_after_of
after-below k = omega arith

module _ (first second : List ℕ) where
  object-pixel-same : (regs o : List ℕ) (eye x y before : ℕ)
      → (object_covers_biased o eye x y ≡ true → Each (SameByte first second) (object_bytes_biased o y))
      → object_pixel_biased second regs o eye x y before ≡ object_pixel_biased first regs o eye x y before
  unfolding object_pixel_biased object_bytes_biased
  object-pixel-same regs o eye x y before h =
      pick_same (object_covers_biased o eye x y)
      (λ e. cell-pixel-same first second (jplt_of regs) (get_or o 3 0) (object_column_biased o eye x) (object_row_biased o y) before (h e))
      (λ _. refl)

-- the rows of `count` objects from object k downwards that cover the pixel are the same
abbrev pub RowsSame : List ℕ → List ℕ → ℕ → ℕ → ℕ → ℕ → ℕ → Type 0
RowsSame first second eye x y count k =
    (j : ℕ) → j < 1024
    → among_of count k j ≡ true
    → object_covers_biased (object_of first j) eye x y ≡ true
    → Each (SameByte first second) (object_bytes_biased (object_of first j) y)

rows-first : (first second : List ℕ) (eye x y count k : ℕ) → k < 1024
    → RowsSame first second eye x y (suc count) k
    → object_covers_biased (object_of first k) eye x y ≡ true
    → Each (SameByte first second) (object_bytes_biased (object_of first k) y)
unfolding among_of
rows-first first second eye x y count k b h e = h k b (or_left (eqb k k) _ (eq-eqb k k refl)) e

rows-later : (first second : List ℕ) (eye x y count k : ℕ) → RowsSame first second eye x y (suc count) k
    → RowsSame first second eye x y count (object_after_of k)
unfolding among_of
rows-later first second eye x y count k h j b a e = h j b (or_right (eqb k j) _ a) e

pub objects-same : (first second : List ℕ) → SameTables first second
    → (regs : List ℕ) (eye x y count k before : ℕ) → k < 1024
    → RowsSame first second eye x y count k
    → objects_pixel_biased second regs eye x y count k before ≡ objects_pixel_biased first regs eye x y count k before
unfolding objects_pixel_biased
objects-same first second t regs eye x y zero k before b h = refl
objects-same first second t regs eye x y (suc count) k before b h =
    rw (
      object-same first second t k b,
      object-pixel-same first second regs (object_of first k) eye x y before (rows-first first second eye x y count k b h),
    )
    (objects-same first second t regs eye x y count (object_after_of k) _ (after-below k)
    (rows-later first second eye x y count k h))
