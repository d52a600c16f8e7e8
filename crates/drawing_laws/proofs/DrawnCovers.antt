-- An object that the loop over worlds draws over a pixel covers the pixel, as Covers says it. Assumes nothing.
use Prim.Native.Nat.{ℕ, zero, suc, ◌+◌, ◌-◌, ◌%◌, ◌<◌, ◌≤◌}
use mathlib.Core.Bool.{true, false≢true}
use mathlib.Core.List.{List}
use mathlib.Core.Path.{◌≡◌, refl, sym, ◌∙◌}
use native.Mathlib.Omega.{arith}
use Rattle.bus.specs.Registers.{spt_of}
use Rattle.drawing_pixel.specs.World.{world_of, end_of}
use Rattle.drawing_pixel.specs.Object.{object_of, group_count_of}
use Rattle.drawing_pixel.specs.Pixel.{draws_objects_of, counter_of}
use Rattle.drawing_pixel.proofs.Painting.{object-covered}
use Rattle.drawing_laws.specs.Covers.{reached_of, group_of, in_group_of, draws_over_of, some_below, object_covers_pixel_of}
use Rattle.drawing_laws.specs.inner.SourceBytes.{among_of, world_draws_biased, worlds_draw_biased}
use Rattle.word.proofs.Choices.{and_left, and_right, and_both, or_left, or_right, or_cases, pick_second}
use Rattle.drawing_laws.proofs.Groups.{among-in-group, counter-step}
use Rattle.drawing_laws.proofs.Reached.{no_end_of, object_worlds_of, no-end-more, reached, object-worlds-below, group-is}

module _ (vram regs : List ℕ) (eye x y j : ℕ) (b : j < 1024) where
  world-draws : (n counter : ℕ) → reached_of vram n ≡ true → group_of vram n ≡ counter
      → world_draws_biased vram regs (world_of vram n) counter eye x y j ≡ true
      → draws_over_of vram regs eye x y j n ≡ true
  unfolding draws_over_of world_draws_biased
  world-draws n counter r g d =
      let w = world_of vram n in
      let rest = and_right (draws_objects_of w) _ d in
      and_both (reached_of vram n) _ r
      (and_both (draws_objects_of w) _ (and_left (draws_objects_of w) _ d)
      (rw g
      (and_both (in_group_of regs counter j) _
      (among-in-group regs counter j b (and_left (among_of (group_count_of regs counter) (spt_of regs counter) j) _ rest))
      (sym (object-covered (object_of vram j) eye x y)
      ∙ and_right (among_of (group_count_of regs counter) (spt_of regs counter) j) _ rest))))

  worlds-draw : (n k counter : ℕ) → n + k ≡ 32
      → no_end_of vram n k ≡ true
      → counter ≡ (35 - object_worlds_of vram n k) % 4
      → worlds_draw_biased vram regs eye x y n counter j ≡ true
      → some_below n (draws_over_of vram regs eye x y j) ≡ true
  unfolding worlds_draw_biased some_below object_worlds_of
  worlds-draw zero k counter q h c d = absurd (false≢true d)
  worlds-draw (suc n) k counter q h c d =
      pick_second (end_of (world_of vram n)) _ d
      (λ e f.
      let on : no_end_of vram n (suc k) ≡ true = no-end-more vram n k e h in
      let few : object_worlds_of vram (suc n) k ≤ k = object-worlds-below vram (suc n) k in
      or_cases (world_draws_biased vram regs (world_of vram n) counter eye x y j) _ f
      (λ g. or_left _ _ (world-draws n counter (reached vram n k q on) (group-is vram n k q ∙ sym c) g))
      (λ g.
      or_right (draws_over_of vram regs eye x y j n) _
      (worlds-draw n (suc k) (counter_of (world_of vram n) counter) (omega arith) on
      (counter-step (world_of vram n) counter (object_worlds_of vram (suc n) k) (omega arith) c) g)))

  pub drawn-covers : worlds_draw_biased vram regs eye x y 32 3 j ≡ true → object_covers_pixel_of vram regs eye x y j ≡ true
  unfolding object_covers_pixel_of no_end_of object_worlds_of
  drawn-covers = worlds-draw 32 0 3 refl refl refl
