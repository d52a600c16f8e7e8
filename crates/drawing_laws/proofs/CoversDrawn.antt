-- An object that covers a pixel, as Covers says it, is drawn over it by the loop over worlds. Assumes nothing.
use Prim.Native.Nat.{ℕ, zero, suc, ◌+◌, ◌-◌, ◌%◌, ◌<◌, ◌≤◌}
use mathlib.Core.Bool.{Bool, true, false, ◌||◌, false≢true}
use mathlib.Core.List.{List}
use mathlib.Core.Path.{◌≡◌, refl, sym, ◌∙◌}
use native.Mathlib.Omega.{arith}
use Rattle.word.specs.Choose.{pick}
use Rattle.bus.specs.Registers.{spt_of}
use Rattle.drawing_pixel.specs.World.{world_of, end_of}
use Rattle.drawing_pixel.specs.Object.{object_of, group_count_of}
use Rattle.drawing_pixel.specs.Pixel.{draws_objects_of, counter_of}
use Rattle.drawing_pixel.proofs.Painting.{object-covered}
use Rattle.drawing_laws.specs.Covers.{reached_of, group_of, in_group_of, draws_over_of, some_below, object_covers_pixel_of}
use Rattle.drawing_laws.specs.inner.SourceBytes.{among_of, world_draws_biased, worlds_draw_biased}
use Rattle.word.proofs.Choices.{and_left, and_right, and_both, or_left, or_right, or_cases}
use Rattle.drawing_laws.proofs.Below.{some_at}
use Rattle.drawing_laws.proofs.Reached.{no_end_of, object_worlds_of, no-end-more, end-stops, object-worlds-below, group-is}
use Rattle.drawing_laws.proofs.Groups.{in-group-among, counter-step}
use Rattle.drawing_laws.proofs.PixelSame.{Starts, counter-below}

module _ (vram regs : List ℕ) (starts : Starts regs) (eye x y j : ℕ) (b : j < 1024) where
  over-reached : (n : ℕ) → draws_over_of vram regs eye x y j n ≡ true → reached_of vram n ≡ true
  unfolding draws_over_of
  over-reached n d = and_left (reached_of vram n) _ d

  over-draws : (n counter : ℕ) → counter < 4
      → group_of vram n ≡ counter
      → draws_over_of vram regs eye x y j n ≡ true
      → world_draws_biased vram regs (world_of vram n) counter eye x y j ≡ true
  unfolding draws_over_of world_draws_biased
  over-draws n counter c g d =
      let w = world_of vram n in
      let drawn = and_right (reached_of vram n) _ d in
      let rest = rw g at (and_right (draws_objects_of w) _ drawn) in
      and_both (draws_objects_of w) _ (and_left (draws_objects_of w) _ drawn)
      (and_both (among_of (group_count_of regs counter) (spt_of regs counter) j) _
      (in-group-among regs counter j (starts counter c) b (and_left (in_group_of regs counter j) _ rest))
      (object-covered (object_of vram j) eye x y ∙ and_right (in_group_of regs counter j) _ rest))

  some-drawn : (n k counter : ℕ) → n + k ≡ 32
      → no_end_of vram n k ≡ true
      → counter < 4
      → counter ≡ (35 - object_worlds_of vram n k) % 4
      → some_below n (draws_over_of vram regs eye x y j) ≡ true
      → worlds_draw_biased vram regs eye x y n counter j ≡ true
  unfolding worlds_draw_biased some_below object_worlds_of
  some-drawn zero k counter q h u c d = absurd (false≢true d)
  some-drawn (suc n) k counter q h u c d =
      go (end_of (world_of vram n)) refl (some-drawn n (suc k) (counter_of (world_of vram n) counter) (omega arith))
    where
      go : (t : Bool) → end_of (world_of vram n) ≡ t
          → (no_end_of vram n (suc k) ≡ true
          → counter_of (world_of vram n) counter < 4
          → counter_of (world_of vram n) counter ≡ (35 - object_worlds_of vram n (suc k)) % 4
          → some_below n (draws_over_of vram regs eye x y j) ≡ true
          → worlds_draw_biased vram regs eye x y n (counter_of (world_of vram n) counter) j ≡ true)
          → pick t false
          (world_draws_biased vram regs (world_of vram n) counter eye x y j
          || worlds_draw_biased vram regs eye x y n (counter_of (world_of vram n) counter) j)
          ≡ true
      go true e later =
          absurd
          (some_at (draws_over_of vram regs eye x y j) (suc n) ⊥ d
          (λ m l g. end-stops vram n m (omega arith) (omega arith) e (over-reached m g)))
      go false e later =
          let few : object_worlds_of vram (suc n) k ≤ k = object-worlds-below vram (suc n) k in
          or_cases (draws_over_of vram regs eye x y j n) (some_below n (draws_over_of vram regs eye x y j)) d
          (λ g. or_left _ _ (over-draws n counter u (group-is vram n k q ∙ sym c) g))
          (λ g.
          or_right (world_draws_biased vram regs (world_of vram n) counter eye x y j) _
          (later (no-end-more vram n k e h) (counter-below (world_of vram n) counter u)
          (counter-step (world_of vram n) counter (object_worlds_of vram (suc n) k) (omega arith) c) g))

  pub covers-drawn : object_covers_pixel_of vram regs eye x y j ≡ true → worlds_draw_biased vram regs eye x y 32 3 j ≡ true
  unfolding object_covers_pixel_of no_end_of object_worlds_of
  covers-drawn = some-drawn 32 0 3 refl refl (omega arith) refl
