-- The objects of a group one after the other: how many there are, and that what is left to draw, applied to what was drawn
-- so far, is the whole group. Assumes nothing.
use Prim.Native.Nat.{ℕ, zero, suc, ◌+◌, ◌-◌, ◌*◌, ◌%◌, ◌<◌}
use native.Mathlib.Omega.{arith}
use mathlib.Core.Path.{◌≡◌, refl, sym, ap, ◌∙◌}
use mathlib.Core.List.{List}
use lib.ListN.{get_or, length}
use Rattle.bus.specs.Registers.{spt_of}
use Rattle.drawing_pixel.specs.Character.{two_bits_of}
use Rattle.drawing_pixel.specs.Object.{object_of, object_after_of, group_count_of}
use Rattle.drawing_pixel.specs.inner.BiasedObject.{object_pixel_biased, objects_pixel_biased, group_pixel_biased}
use Rattle.drawing_pixel.specs.inner.Buffer.{Strip}

-- how many objects a group other than 0 has
pub count-above : (regs : List ℕ) (n : ℕ) → (n ≡ 0 → ⊥) → (get_or regs n 0 + 1023 - get_or regs (n - 1) 0) % 1024 + 1 ≡ group_count_of regs n
unfolding group_count_of spt_of
count-above regs zero h = absurd (h refl)
count-above regs (suc n) h = let e : suc n - 1 ≡ n = omega arith in rw e

pub count-zero : (regs : List ℕ) (n : ℕ) → n ≡ 0 → get_or regs 0 0 + 1 ≡ group_count_of regs n
unfolding group_count_of spt_of
count-zero regs n e = rw e

module _ (vram regs : List ℕ) (eye strip n : ℕ) where
  -- what is left of the group, applied to the strip now, is the whole group applied to the strip at first
  pub record Drawing (left k : ℕ) (before after : List ℕ) : Type 0 where
    pub size : length after ≡ length before
    pub pixels : (x r : ℕ) → x < 384 → r < 8
        → objects_pixel_biased vram regs eye x (8 * strip + r) left k (two_bits_of (get_or after x 0) r)
        ≡ group_pixel_biased vram regs n eye x (8 * strip + r) (two_bits_of (get_or before x 0) r)

  pub group-begun : (left k : ℕ) (a : List ℕ) → left ≡ group_count_of regs n → k ≡ spt_of regs n → Drawing left k a a
  unfolding group_pixel_biased
  group-begun left k a e f = record { size = refl; pixels = λ x r u v. rw (e, f) }

  objects-step : (x y left k v : ℕ) → 0 < left
      → objects_pixel_biased vram regs eye x y left k v
      ≡ objects_pixel_biased vram regs eye x y (left - 1) (object_after_of k) (object_pixel_biased vram regs (object_of vram k) eye x y v)
  unfolding objects_pixel_biased
  objects-step x y zero k v h = absurd (omega arith)
  objects-step x y (suc m) k v h = let e : suc m - 1 ≡ m = omega arith in rw e

  pub group-more : (left k : ℕ) (a b c : List ℕ) → 0 < left → Drawing left k a b
      → Strip (λ x r. object_pixel_biased vram regs (object_of vram k) eye x (8 * strip + r)) b c
      → Drawing (left - 1) ((k + 1023) % 1024) a c
  unfolding object_after_of
  group-more left k a b c h d s =
      record {
        size = s.size ∙ d.size;
        pixels = λ x r u v.
            ap (objects_pixel_biased vram regs eye x (8 * strip + r) (left - 1) ((k + 1023) % 1024)) (s.pixels x r u v)
            ∙ (sym (objects-step x (8 * strip + r) left k (two_bits_of (get_or b x 0) r) h) ∙ d.pixels x r u v);
      }

  pub group-done : (left k : ℕ) (a b : List ℕ) → left ≡ 0 → Drawing left k a b
      → Strip (λ x r. group_pixel_biased vram regs n eye x (8 * strip + r)) a b
  unfolding objects_pixel_biased
  group-done left k a b e d = record { size = d.size; pixels = λ x r u v. sym (done x r) ∙ d.pixels x r u v }
    where
      done : (x r : ℕ) → objects_pixel_biased vram regs eye x (8 * strip + r) left k (two_bits_of (get_or b x 0) r) ≡ two_bits_of (get_or b x 0) r
      done x r = rw e
