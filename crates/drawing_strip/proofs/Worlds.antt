-- What a world makes of a pixel and of the object counter by its flags, and that what is left of the loop over worlds, applied
-- to what was painted so far, is the whole loop. Assumes nothing.
use Prim.Native.Nat.{ℕ, zero, suc, ◌+◌, ◌-◌, ◌*◌, ◌/◌, ◌%◌, ◌<◌, ◌≤◌}
use native.Mathlib.Nat.{add-zero}
use native.Mathlib.Omega.{arith}
use native.Mathlib.Decide.{dec_lt}
use mathlib.Core.Path.{◌≡◌, refl, sym, ◌∙◌}
use mathlib.Core.Bool.{true, false, or-true}
use mathlib.Core.List.{List}
use lib.ListN.{get_or, length}
use borrow.Author.Tests.{eq-eqb, ne_eqb}
use Rattle.word.specs.LittleEndian.{half_at}
use Rattle.drawing_pixel.specs.Character.{two_bits_of}
use Rattle.drawing_pixel.specs.Lists.{list_of}
use Rattle.drawing_pixel.specs.World.{world_of, skipped_of, bgm_of, end_of}
use Rattle.drawing_pixel.specs.inner.BiasedCell.{background_pixel_biased}
use Rattle.drawing_pixel.specs.inner.BiasedObject.{group_pixel_biased}
use Rattle.drawing_pixel.specs.Pixel.{counter_after_of, draws_objects_of, counter_of}
use Rattle.drawing_pixel.specs.inner.Painting.{world_pixel_biased, worlds_pixel_biased}
use Rattle.drawing_pixel.specs.inner.Buffer.{Strip}

-- the flags of a world are its first halfword
pub world-flags : (vram : List ℕ) (n : ℕ) → half_at vram (251904 + 32 * n) ≡ get_or (world_of vram n) 0 0
unfolding world_of list_of
world-flags vram n = rw add-zero

pub flags-skipped : (w : List ℕ) → get_or w 0 0 < 16384 → skipped_of w ≡ true
unfolding skipped_of
flags-skipped w h = simp (ne_eqb (get_or w 0 0 / 32768 % 2) 1 (λ e. omega arith), ne_eqb (get_or w 0 0 / 16384 % 2) 1 (λ e. omega arith))

pub flags-shown : (w : List ℕ) → 16384 ≤ get_or w 0 0 → get_or w 0 0 < 65536 → skipped_of w ≡ false
unfolding skipped_of
flags-shown w l h =
    elim (dec_lt (get_or w 0 0) 32768) [
      | yes m ↦ simp (eq-eqb (get_or w 0 0 / 16384 % 2) 1 (omega arith), or-true)
      | no m ↦ simp (eq-eqb (get_or w 0 0 / 32768 % 2) 1 (omega arith))
    ]

module _ (vram regs w : List ℕ) (counter eye x y v : ℕ) where
  pub pixel-skipped : skipped_of w ≡ true → world_pixel_biased vram regs w counter eye x y v ≡ v
  unfolding world_pixel_biased
  pixel-skipped e = rw e

  pub pixel-objects : skipped_of w ≡ false → bgm_of w ≡ 3 → group_pixel_biased vram regs counter eye x y v ≡ world_pixel_biased vram regs w counter eye x y v
  unfolding world_pixel_biased
  pixel-objects e f = rw e (simp (eq-eqb (bgm_of w) 3 f))

  pub pixel-background : skipped_of w ≡ false → (bgm_of w ≡ 3 → ⊥) → background_pixel_biased vram regs w eye x y v ≡ world_pixel_biased vram regs w counter eye x y v
  unfolding world_pixel_biased
  pixel-background e f = rw e (simp (ne_eqb (bgm_of w) 3 f))

pub counter-skipped : (w : List ℕ) (counter : ℕ) → skipped_of w ≡ true → counter ≡ counter_of w counter
unfolding counter_of draws_objects_of
counter-skipped w counter e = rw e

pub counter-background : (w : List ℕ) (counter : ℕ) → skipped_of w ≡ false → (bgm_of w ≡ 3 → ⊥) → counter ≡ counter_of w counter
unfolding counter_of draws_objects_of
counter-background w counter e f = rw e (simp (ne_eqb (bgm_of w) 3 f))

pub counter-objects : (w : List ℕ) (counter : ℕ) → skipped_of w ≡ false → bgm_of w ≡ 3 → counter_after_of counter ≡ counter_of w counter
unfolding counter_of draws_objects_of
counter-objects w counter e f = rw e (simp (eq-eqb (bgm_of w) 3 f))

pub counter-after-zero : (counter : ℕ) → counter ≡ 0 → 3 ≡ counter_after_of counter
counter-after-zero counter e = rw e

pub counter-after-more : (counter : ℕ) → (counter ≡ 0 → ⊥) → counter - 1 ≡ counter_after_of counter
counter-after-more zero n = absurd (n refl)
counter-after-more (suc c) n = omega arith

module _ (vram regs : List ℕ) (eye strip : ℕ) where
  -- what is left of the loop, applied to the strip now, is the whole loop applied to the strip at first
  pub record Painting (n counter : ℕ) (before after : List ℕ) : Type 0 where
    pub size : length after ≡ length before
    pub pixels : (x r : ℕ) → x < 384 → r < 8
        → worlds_pixel_biased vram regs eye x (8 * strip + r) n counter (two_bits_of (get_or after x 0) r)
        ≡ worlds_pixel_biased vram regs eye x (8 * strip + r) 32 3 (two_bits_of (get_or before x 0) r)

  pub worlds-begun : (a : List ℕ) → Painting 32 3 a a
  worlds-begun a = record { size = refl; pixels = λ x r u v. refl }

  worlds-step : (x y n counter v : ℕ) → 0 < n → end_of (world_of vram (n - 1)) ≡ false
      → worlds_pixel_biased vram regs eye x y n counter v
      ≡ worlds_pixel_biased vram regs eye x y (n - 1) (counter_of (world_of vram (n - 1)) counter)
      (world_pixel_biased vram regs (world_of vram (n - 1)) counter eye x y v)
  unfolding worlds_pixel_biased
  worlds-step x y zero counter v h e = absurd (omega arith)
  worlds-step x y (suc m) counter v h e = let f : suc m - 1 ≡ m = omega arith in rw f (rw (rw f at e))

  worlds-end : (x y n counter v : ℕ) → 0 < n → end_of (world_of vram (n - 1)) ≡ true → worlds_pixel_biased vram regs eye x y n counter v ≡ v
  unfolding worlds_pixel_biased
  worlds-end x y zero counter v h e = absurd (omega arith)
  worlds-end x y (suc m) counter v h e = let f : suc m - 1 ≡ m = omega arith in rw (rw f at e)

  pub worlds-more : (n counter next : ℕ) (a b c : List ℕ) → 0 < n → end_of (world_of vram (n - 1)) ≡ false
      → next ≡ counter_of (world_of vram (n - 1)) counter → Painting n counter a b
      → Strip (λ x r. world_pixel_biased vram regs (world_of vram (n - 1)) counter eye x (8 * strip + r)) b c
      → Painting (n - 1) next a c
  worlds-more n counter next a b c h e f d s =
      record {
        size = s.size ∙ d.size;
        pixels = λ x r u v.
            rw (f, s.pixels x r u v)
            (sym (worlds-step x (8 * strip + r) n counter (two_bits_of (get_or b x 0) r) h e) ∙ d.pixels x r u v);
      }

  pub worlds-ended : (n counter : ℕ) (a b : List ℕ) → 0 < n → end_of (world_of vram (n - 1)) ≡ true → Painting n counter a b
      → Strip (λ x r. worlds_pixel_biased vram regs eye x (8 * strip + r) 32 3) a b
  worlds-ended n counter a b h e d =
      record { size = d.size; pixels = λ x r u v. sym (worlds-end x (8 * strip + r) n counter (two_bits_of (get_or b x 0) r) h e) ∙ d.pixels x r u v }

  pub worlds-done : (n counter : ℕ) (a b : List ℕ) → n ≡ 0 → Painting n counter a b → Strip (λ x r. worlds_pixel_biased vram regs eye x (8 * strip + r) 32 3) a b
  unfolding worlds_pixel_biased
  worlds-done n counter a b e d = record { size = d.size; pixels = λ x r u v. sym (none x r) ∙ d.pixels x r u v }
    where
      none : (x r : ℕ) → worlds_pixel_biased vram regs eye x (8 * strip + r) n counter (two_bits_of (get_or b x 0) r) ≡ two_bits_of (get_or b x 0) r
      none x r = rw e
