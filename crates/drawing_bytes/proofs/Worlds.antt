-- The loop over the worlds: what is left of the worlds' bytes, and how many object worlds there are. Assumes nothing.
use Prim.Native.Nat.{ℕ, zero, suc, ◌+◌, ◌-◌, ◌<◌}
use native.Mathlib.Omega.{arith}
use mathlib.Core.Bool.{true, false}
use mathlib.Core.List.{List, [], ◌++◌}
use mathlib.Core.Path.{◌≡◌}
use borrow.Author.Tests.{eq-eqb, ne_eqb}
use Rattle.word.specs.Choose.{pick}
use Rattle.drawing_pixel.specs.World.{world_of, end_of, skipped_of, bgm_of}
use Rattle.drawing_pixel.specs.Pixel.{draws_objects_of}
use Rattle.drawing_laws.specs.inner.SourceBytes.{world_bytes_biased, worlds_bytes_biased}
use Rattle.drawing_bytes.specs.inner.Groups.{reached_object_worlds_of}

module _ (vram : List ℕ) where
  module _ (eye x y : ℕ) where
    pub worlds-step : (n : ℕ) → 0 < n → end_of (world_of vram (n - 1)) ≡ false
        → worlds_bytes_biased vram eye x y n ≡ world_bytes_biased vram (world_of vram (n - 1)) eye x y ++ worlds_bytes_biased vram eye x y (n - 1)
    unfolding worlds_bytes_biased
    worlds-step zero h e = absurd (omega arith)
    worlds-step (suc m) h e = let f : suc m - 1 ≡ m = omega arith in rw f (rw (rw f at e))

    pub worlds-ended : (n : ℕ) → 0 < n → end_of (world_of vram (n - 1)) ≡ true → worlds_bytes_biased vram eye x y n ≡ []
    unfolding worlds_bytes_biased
    worlds-ended zero h e = absurd (omega arith)
    worlds-ended (suc m) h e = let f : suc m - 1 ≡ m = omega arith in rw (rw f at e)

    pub worlds-none : (n : ℕ) → n ≡ 0 → worlds_bytes_biased vram eye x y n ≡ []
    unfolding worlds_bytes_biased
    worlds-none n e = rw e

  pub reached-step : (n : ℕ) → 0 < n → end_of (world_of vram (n - 1)) ≡ false
      → reached_object_worlds_of vram n ≡ pick (draws_objects_of (world_of vram (n - 1))) 1 0 + reached_object_worlds_of vram (n - 1)
  unfolding reached_object_worlds_of
  reached-step zero h e = absurd (omega arith)
  reached-step (suc m) h e = let f : suc m - 1 ≡ m = omega arith in rw f (rw (rw f at e))

  pub reached-ended : (n : ℕ) → 0 < n → end_of (world_of vram (n - 1)) ≡ true → reached_object_worlds_of vram n ≡ 0
  unfolding reached_object_worlds_of
  reached-ended zero h e = absurd (omega arith)
  reached-ended (suc m) h e = let f : suc m - 1 ≡ m = omega arith in rw (rw f at e)

  pub reached-none : (n : ℕ) → n ≡ 0 → reached_object_worlds_of vram n ≡ 0
  unfolding reached_object_worlds_of
  reached-none n e = rw e

module _ (w : List ℕ) where
  pub draws-skipped : skipped_of w ≡ true → ◌≡◌ {A = ℕ} 0 (pick (draws_objects_of w) 1 0)
  unfolding draws_objects_of
  draws-skipped e = rw e

  pub draws-objects : skipped_of w ≡ false → bgm_of w ≡ 3 → ◌≡◌ {A = ℕ} 1 (pick (draws_objects_of w) 1 0)
  unfolding draws_objects_of
  draws-objects e f = rw e (simp (eq-eqb (bgm_of w) 3 f))

  pub draws-background : skipped_of w ≡ false → (bgm_of w ≡ 3 → ⊥) → ◌≡◌ {A = ℕ} 0 (pick (draws_objects_of w) 1 0)
  unfolding draws_objects_of
  draws-background e f = rw e (simp (ne_eqb (bgm_of w) 3 f))
