-- The objects: those that the reached object worlds draw are those of their groups (`draws-in-groups`), and what is left of
-- the objects' bytes. Assumes nothing.
use Prim.Native.Nat.{ℕ, zero, suc, ◌+◌, ◌-◌, ◌%◌, ◌<◌}
use native.Mathlib.Omega.{arith}
use mathlib.Core.Bool.{Bool, true, false, ◌&&◌, ◌||◌, and-false}
use mathlib.Core.List.{List, [], ◌++◌}
use mathlib.Core.Path.{◌≡◌, refl, ap, ◌∙◌}
use lib.ListN.{get_or}
use Rattle.word.specs.Choose.{pick}
use Rattle.drawing_pixel.specs.Character.{row_address_of}
use Rattle.bus.specs.Registers.{spt_of}
use Rattle.drawing_pixel.specs.World.{world_of, end_of}
use Rattle.drawing_pixel.specs.Object.{object_of, group_count_of}
use Rattle.drawing_pixel.specs.inner.BiasedObject.{object_row_biased, object_covers_biased}
use Rattle.drawing_pixel.specs.Pixel.{counter_after_of, draws_objects_of, counter_of}
use Rattle.drawing_laws.specs.Covers.{in_group_of}
use Rattle.drawing_laws.specs.PixelBytes.{half_bytes_of}
use Rattle.drawing_laws.specs.inner.SourceBytes.{among_of, world_draws_biased, worlds_draw_biased, object_bytes_biased, objects_bytes_biased}
use Rattle.drawing_laws.proofs.Groups.{in-group-among, among-in-group}
use Rattle.drawing_laws.proofs.PixelSame.{counter-after-below}
use Rattle.word.proofs.Choices.{test-same}
use Rattle.drawing_bytes.specs.inner.Groups.{reached_object_worlds_of, in_groups_of, object_list_of}

-- the group after a group: downwards, 3 after 0
pub group-after : (group : ℕ) → group < 4 → (group + 3) % 4 ≡ counter_after_of group
group-after zero h = refl
group-after (suc c) h = omega arith

module _ (vram regs : List ℕ) (spts : (g : ℕ) → g < 4 → spt_of regs g < 1024) (eye x y k : ℕ) (h : k < 1024) where
  among_same : (counter : ℕ) → counter < 4 → among_of (group_count_of regs counter) (spt_of regs counter) k ≡ in_group_of regs counter k
  among_same counter l = test-same _ _ (among-in-group regs counter k h) (in-group-among regs counter k (spts counter l) h)

  draws-world : (n counter : ℕ) → counter < 4
      → world_draws_biased vram regs (world_of vram n) counter eye x y k
      ≡ (draws_objects_of (world_of vram n) && (in_group_of regs counter k && object_covers_biased (object_of vram k) eye x y))
  unfolding world_draws_biased
  draws-world n counter l = rw (among_same counter l)

  or-and : (a b c : Bool) → ((a && c) || (b && c)) ≡ ((a || b) && c)
  or-and true true true = refl
  or-and true true false = refl
  or-and true false true = refl
  or-and true false false = refl
  or-and false b c = refl

  -- one world more: END draws nothing, a world that draws objects its own group and those after it
  one-world : (n counter : ℕ) (end draws : Bool) → draws_objects_of (world_of vram n) ≡ draws
      → worlds_draw_biased vram regs eye x y n (counter_after_of counter) k
      ≡ (in_groups_of regs (reached_object_worlds_of vram n) (counter_after_of counter) k && object_covers_biased (object_of vram k) eye x y)
      → worlds_draw_biased vram regs eye x y n counter k
      ≡ (in_groups_of regs (reached_object_worlds_of vram n) counter k && object_covers_biased (object_of vram k) eye x y)
      → pick end false
      ((draws && (in_group_of regs counter k && object_covers_biased (object_of vram k) eye x y))
      || worlds_draw_biased vram regs eye x y n (counter_of (world_of vram n) counter) k)
      ≡ (in_groups_of regs (pick end 0 (pick draws 1 0 + reached_object_worlds_of vram n)) counter k && object_covers_biased (object_of vram k) eye x y)
  unfolding counter_of in_groups_of
  one-world n counter true draws f p q = refl
  one-world n counter false true f p q =
      let z : 1 + reached_object_worlds_of vram n ≡ suc (reached_object_worlds_of vram n) = omega arith in
      rw (f, z)
      (ap (λ (b : Bool). (in_group_of regs counter k && object_covers_biased (object_of vram k) eye x y) || b) p
      ∙ or-and (in_group_of regs counter k) (in_groups_of regs (reached_object_worlds_of vram n) (counter_after_of counter) k)
      (object_covers_biased (object_of vram k) eye x y))
  one-world n counter false false f p q =
      let z : 0 + reached_object_worlds_of vram n ≡ reached_object_worlds_of vram n = omega arith in rw (f, z) q

  pub draws-in-groups : (n counter : ℕ) → counter < 4
      → worlds_draw_biased vram regs eye x y n counter k
      ≡ (in_groups_of regs (reached_object_worlds_of vram n) counter k && object_covers_biased (object_of vram k) eye x y)
  unfolding worlds_draw_biased in_groups_of reached_object_worlds_of
  draws-in-groups zero counter l = refl
  draws-in-groups (suc n) counter l =
      rw (draws-world n counter l)
      (one-world n counter (end_of (world_of vram n)) (draws_objects_of (world_of vram n)) refl
      (draws-in-groups n (counter_after_of counter) (counter-after-below counter l)) (draws-in-groups n counter l))

  module _ (worlds : ℕ) (e : worlds ≡ reached_object_worlds_of vram 32) where
    pub object-not-covering : object_covers_biased (object_of vram k) eye x y ≡ false → [] ≡ object_list_of vram regs eye x y k
    unfolding object_list_of
    object-not-covering f = rw (draws-in-groups 32 3 (omega arith), f) (simp and-false)

    pub object-not-drawn : in_groups_of regs worlds 3 k ≡ false → [] ≡ object_list_of vram regs eye x y k
    unfolding object_list_of
    object-not-drawn f = rw (draws-in-groups 32 3 (omega arith), ← e, f)

    pub object-drawn : object_covers_biased (object_of vram k) eye x y ≡ true → in_groups_of regs worlds 3 k ≡ true
        → object_bytes_biased (object_of vram k) y ≡ object_list_of vram regs eye x y k
    unfolding object_list_of
    object-drawn f g = rw (draws-in-groups 32 3 (omega arith), ← e, f, g)

module _ (vram regs : List ℕ) (eye x y : ℕ) where
  pub objects-step : (n : ℕ) → 0 < n
      → objects_bytes_biased vram regs eye x y n ≡ object_list_of vram regs eye x y (n - 1) ++ objects_bytes_biased vram regs eye x y (n - 1)
  unfolding objects_bytes_biased object_list_of
  objects-step zero h = absurd (omega arith)
  objects-step (suc m) h = let f : suc m - 1 ≡ m = omega arith in rw f

  pub objects-none : (n : ℕ) → n ≡ 0 → objects_bytes_biased vram regs eye x y n ≡ []
  unfolding objects_bytes_biased
  objects-none n e = rw e

module _ (regs : List ℕ) (k : ℕ) where
  pub groups-step : (worlds group : ℕ) → 0 < worlds → group < 4
      → in_groups_of regs worlds group k ≡ (in_group_of regs group k || in_groups_of regs (worlds - 1) ((group + 3) % 4) k)
  unfolding in_groups_of
  groups-step zero group h l = absurd (omega arith)
  groups-step (suc m) group h l = let f : suc m - 1 ≡ m = omega arith in rw (f, group-after group l)

  pub groups_none : (worlds group : ℕ) → worlds ≡ 0 → false ≡ in_groups_of regs worlds group k
  unfolding in_groups_of
  groups_none worlds group e = rw e

  pub groups-found : (worlds group : ℕ) → 0 < worlds → group < 4 → in_group_of regs group k ≡ true → true ≡ in_groups_of regs worlds group k
  groups-found worlds group h l e = rw (groups-step worlds group h l, e)

  pub groups-on : (worlds group : ℕ) → 0 < worlds → group < 4 → in_group_of regs group k ≡ false
      → in_groups_of regs (worlds - 1) ((group + 3) % 4) k ≡ in_groups_of regs worlds group k
  groups-on worlds group h l e = rw (groups-step worlds group h l, e)

-- an object's bytes from its halfwords as they were read
pub object-row-bytes : (o : List ℕ) (y cell row a : ℕ) → a ≡ row_address_of cell row → cell ≡ get_or o 3 0 → row ≡ object_row_biased o y
    → half_bytes_of a ≡ object_bytes_biased o y
unfolding object_bytes_biased
object-row-bytes o y cell row a e f g = rw (e, f, g)
