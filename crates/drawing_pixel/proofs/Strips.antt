-- Which addresses hold pixels of a strip, by the tests of the definition. Assumes nothing.
use Prim.Native.Nat.{ℕ, ◌/◌, ◌%◌, ◌<◌, ◌≤◌}
use mathlib.Core.Path.{◌≡◌}
use mathlib.Core.Bool.{true, false, and-false}
use borrow.Author.Tests.{lt-ltb, le-ltb, eq-eqb, ne_eqb}
use Rattle.drawing_pixel.specs.Strip.{in_images_of, in_strip_of}

module _ (frame strip a : ℕ) where
  pub in-strip : a < 131072 → a / 32768 % 2 ≡ frame → a % 32768 < 24576 → a % 64 / 2 ≡ strip → in_strip_of frame strip a ≡ true
  unfolding in_strip_of in_images_of
  in-strip h e l f = simp (lt-ltb _ _ h, eq-eqb _ _ e, lt-ltb _ _ l, eq-eqb _ _ f)

  pub past-images : 131072 ≤ a → in_strip_of frame strip a ≡ false
  unfolding in_strip_of in_images_of
  past-images h = simp (le-ltb _ _ h)

  pub other-frame : (a / 32768 % 2 ≡ frame → ⊥) → in_strip_of frame strip a ≡ false
  unfolding in_strip_of in_images_of
  other-frame n = simp (ne_eqb _ _ n, and-false)

  pub past-image : 24576 ≤ a % 32768 → in_strip_of frame strip a ≡ false
  unfolding in_strip_of in_images_of
  past-image h = simp (le-ltb _ _ h, and-false)

  pub other-strip : (a % 64 / 2 ≡ strip → ⊥) → in_strip_of frame strip a ≡ false
  unfolding in_strip_of in_images_of
  other-strip n = simp (ne_eqb _ _ n, and-false)
