-- The rows of a world in the cases of the code: by BGM, by GY as the halfword it is stored in.
-- Assumes nothing.
use Prim.Native.Nat.{ℕ, ◌-◌, ◌%◌, ◌<◌, ◌≤◌, max}
use native.Mathlib.Decide.{dec_lt}
use native.Mathlib.Omega.{arith}
use mathlib.Core.Path.{◌≡◌}
use mathlib.Core.Bool.{and-false}
use mathlib.Core.List.{List}
use borrow.Author.Tests.{eq-eqb, ne_eqb, lt-leb, le-leb}
use lib.ListN.{get_or}
use Rattle.drawing_pixel.specs.World.{bgm_of}
use Rattle.drawing_pixel.specs.inner.BiasedFields.{gy_biased}
use Rattle.drawing_pixel.specs.inner.BiasedWindow.{height_biased, rows_biased}

module _ (w : List ℕ) where
  pub rows-affine : bgm_of w ≡ 2 → rows_biased w ≡ height_biased w
  unfolding rows_biased
  rows-affine b = simp (eq-eqb _ _ b)

  -- GY from 0 to 223 is the halfword itself
  pub rows-in-image : (bgm_of w ≡ 2 → ⊥) → get_or w 3 0 < 224 → rows_biased w ≡ max (height_biased w) (8 - get_or w 3 0 % 8)
  unfolding rows_biased
  rows-in-image b g =
      let low : 32768 ≤ gy_biased w = omega arith in
      let high : gy_biased w ≤ 32991 = omega arith in
      let rest : gy_biased w % 8 ≡ get_or w 3 0 % 8 = omega arith in
      rw rest (simp (ne_eqb _ _ b, le-leb _ _ low, le-leb _ _ high))

  -- any other halfword is a GY below 0 or above 223
  pub rows-outside : (bgm_of w ≡ 2 → ⊥) → 224 ≤ get_or w 3 0 → get_or w 3 0 < 65536 → rows_biased w ≡ height_biased w
  unfolding rows_biased
  rows-outside b g s =
      elim (dec_lt (get_or w 3 0) 32768) [
        | yes l ↦ let high : 32991 < gy_biased w = omega arith in simp (ne_eqb _ _ b, lt-leb _ _ high, and-false)
        | no n ↦ let low : gy_biased w < 32768 = omega arith in simp (ne_eqb _ _ b, lt-leb _ _ low)
      ]
