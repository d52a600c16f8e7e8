-- The loop over worlds makes the same pixel in two memories with the same tables that hold the same at the listed
-- bytes. Assumes nothing.
use Prim.Native.Nat.{ℕ, zero, suc, ◌<◌, ◌≤◌}
use mathlib.Core.Bool.{Bool, true, false}
use mathlib.Core.List.{List, []}
use mathlib.Core.Path.{◌≡◌, refl, sym, ◌∙◌}
use lib.Dec.{eqb}
use native.Mathlib.Omega.{arith}
use borrow.Author.Tests.{eqb-true, eqb-false}
use Rattle.word.specs.Choose.{pick}
use Rattle.bus.specs.Registers.{spt_of, bkcol_of}
use Rattle.drawing_pixel.specs.World.{world_of, end_of, skipped_of, bgm_of}
use Rattle.drawing_pixel.specs.Object.{object_of, group_count_of}
use Rattle.drawing_pixel.specs.inner.BiasedObject.{group_pixel_biased}
use Rattle.drawing_pixel.specs.Pixel.{counter_after_of, draws_objects_of, counter_of, pixel_of}
use Rattle.drawing_pixel.specs.inner.Painting.{world_pixel_biased, worlds_pixel_biased, pixel_biased}
use Rattle.drawing_pixel.proofs.Painting.{pixel-formula}
use Rattle.drawing_laws.specs.Demand3.{Each, SameByte, SameTables}
use Rattle.drawing_laws.specs.inner.SourceBytes.{world_draws_biased, worlds_draw_biased, object_bytes_biased, objects_bytes_biased}
use Rattle.drawing_laws.specs.inner.SourceBytes.{world_bytes_biased, worlds_bytes_biased, pixel_bytes_biased}
use Rattle.drawing_laws.proofs.Each.{each_left, each_right}
use Rattle.word.proofs.Choices.{pick_same, and_both, not_of_false, or_left, or_right}
use Rattle.drawing_laws.proofs.Halfwords.{world_same}
use Rattle.drawing_laws.proofs.BackgroundSame.{background-same}
use Rattle.drawing_laws.proofs.ObjectsSame.{objects-same}

-- the start of every group is an object
abbrev pub Starts : List ℕ → Type 0
Starts regs = (n : ℕ) → n < 4 → spt_of regs n < 1024

-- the rows of objects below n for which a test holds are the same
abbrev DrawnBelow : List ℕ → List ℕ → ℕ → ℕ → (ℕ → Bool) → Type 0
DrawnBelow first second y n f = (k : ℕ) → k < n → f k ≡ true → Each (SameByte first second) (object_bytes_biased (object_of first k) y)

abbrev DrawnSame : List ℕ → List ℕ → ℕ → (ℕ → Bool) → Type 0
DrawnSame first second y f = DrawnBelow first second y 1024 f

pub counter-after-below : (c : ℕ) → c < 4 → counter_after_of c < 4
counter-after-below zero h = omega arith
counter-after-below (suc c) h = omega arith

pub counter-below : (w : List ℕ) (c : ℕ) → c < 4 → counter_of w c < 4
unfolding counter_of
counter-below w c h = go (draws_objects_of w)
  where
    go : (b : Bool) → pick b (counter_after_of c) c < 4
    go true = counter-after-below c h
    go false = h

module _ (first second : List ℕ) (t : SameTables first second) (regs : List ℕ) (starts : Starts regs) where
  world-pixel-same : (w : List ℕ) (counter eye x y before : ℕ) → counter < 4
      → Each (SameByte first second) (world_bytes_biased first w eye x y)
      → DrawnSame first second y (world_draws_biased first regs w counter eye x y)
      → world_pixel_biased second regs w counter eye x y before ≡ world_pixel_biased first regs w counter eye x y before
  unfolding world_pixel_biased world_bytes_biased world_draws_biased group_pixel_biased draws_objects_of
  world-pixel-same w counter eye x y before c h d =
      pick_same (skipped_of w) (λ _. refl)
      (λ e.
      pick_same (eqb (bgm_of w) 3)
      (λ f.
      objects-same first second t regs eye x y (group_count_of regs counter) (spt_of regs counter) before (starts counter c)
      (λ j b a o. d j b (and_both _ _ (and_both _ _ (not_of_false (skipped_of w) e) f) (and_both _ _ a o))))
      (λ f. background-same first second regs w eye x y before (rw f at (rw e at h))))

  worlds-pixel-same : (eye x y n counter before : ℕ) → n ≤ 32
      → counter < 4
      → Each (SameByte first second) (worlds_bytes_biased first eye x y n)
      → DrawnSame first second y (worlds_draw_biased first regs eye x y n counter)
      → worlds_pixel_biased second regs eye x y n counter before ≡ worlds_pixel_biased first regs eye x y n counter before
  unfolding worlds_pixel_biased worlds_bytes_biased worlds_draw_biased
  worlds-pixel-same eye x y zero counter before l c h d = refl
  worlds-pixel-same eye x y (suc n) counter before l c h d =
      rw (world_same first second t n l)
      (pick_same (end_of (world_of first n)) (λ _. refl)
      (λ e.
      let all = rw e at h in
      rw
      (world-pixel-same (world_of first n) counter eye x y before c
      (each_left (SameByte first second) (world_bytes_biased first (world_of first n) eye x y) _ all)
      (λ k b f. d k b (rw e (or_left _ _ f))))
      (worlds-pixel-same eye x y n (counter_of (world_of first n) counter) _ (omega arith)
      (counter-below (world_of first n) counter c)
      (each_right (SameByte first second) (world_bytes_biased first (world_of first n) eye x y) _ all)
      (λ k b f. d k b (rw e (or_right (world_draws_biased first regs (world_of first n) counter eye x y k) _ f))))))

  drawn-last : (eye x y k : ℕ) → Each (SameByte first second) (objects_bytes_biased first regs eye x y (suc k))
      → worlds_draw_biased first regs eye x y 32 3 k ≡ true
      → Each (SameByte first second) (object_bytes_biased (object_of first k) y)
  unfolding objects_bytes_biased
  drawn-last eye x y k h f =
      rw f
      at (each_left (SameByte first second)
      (pick (worlds_draw_biased first regs eye x y 32 3 k) (object_bytes_biased (object_of first k) y) []) _ h)

  drawn-later : (eye x y n : ℕ) → Each (SameByte first second) (objects_bytes_biased first regs eye x y (suc n))
      → Each (SameByte first second) (objects_bytes_biased first regs eye x y n)
  unfolding objects_bytes_biased
  drawn-later eye x y n h =
      each_right (SameByte first second)
      (pick (worlds_draw_biased first regs eye x y 32 3 n) (object_bytes_biased (object_of first n) y) []) _ h

  drawn-same : (eye x y n : ℕ) → Each (SameByte first second) (objects_bytes_biased first regs eye x y n)
      → DrawnBelow first second y n (worlds_draw_biased first regs eye x y 32 3)
  drawn-same eye x y zero h k b f = absurd (omega arith)
  drawn-same eye x y (suc n) h k b f = go (eqb k n) refl (drawn-same eye x y n (drawn-later eye x y n h) k)
    where
      go : (test : Bool) → eqb k n ≡ test
          → (k < n → worlds_draw_biased first regs eye x y 32 3 k ≡ true → Each (SameByte first second) (object_bytes_biased (object_of first k) y))
          → Each (SameByte first second) (object_bytes_biased (object_of first k) y)
      go true e r = drawn-last eye x y k (rw (← (eqb-true k n e)) at h) f
      go false e r =
          let other : k ≡ n → ⊥ = eqb-false k n e in
          r (omega arith) f

  painted_same : (eye x y : ℕ) → Each (SameByte first second) (pixel_bytes_biased first regs eye x y)
      → pixel_biased second regs eye x y ≡ pixel_biased first regs eye x y
  unfolding pixel_biased pixel_bytes_biased
  painted_same eye x y h =
      worlds-pixel-same eye x y 32 3 (bkcol_of regs) (omega arith) (omega arith)
      (each_left (SameByte first second) (worlds_bytes_biased first eye x y 32) _ h)
      (drawn-same eye x y 1024 (each_right (SameByte first second) (worlds_bytes_biased first eye x y 32) _ h))

  pub pixel-same : (eye x y : ℕ) → Each (SameByte first second) (pixel_bytes_biased first regs eye x y)
      → pixel_of second regs eye x y ≡ pixel_of first regs eye x y
  pixel-same eye x y h =
      sym (pixel-formula second regs eye x y) ∙ painted_same eye x y h ∙ pixel-formula first regs eye x y
