-- Inner: which objects the reached object worlds draw, without a second look at the worlds: how many object worlds
-- there are before END, and the groups that so many draw. `draws-in-groups` ties them to the list.
use Rattle.std.specs.Prelude.{ℕ, zero, suc, ◌+◌, Bool, false, ◌||◌, List, []}
use Rattle.word.specs.Choose.{pick}
use Rattle.drawing_pixel.specs.World.{world_of, end_of}
use Rattle.drawing_pixel.specs.Object.{object_of}
use Rattle.drawing_pixel.specs.Pixel.{counter_after_of, draws_objects_of}
use Rattle.drawing_laws.specs.Covers.{in_group_of}
use Rattle.drawing_laws.specs.inner.SourceBytes.{worlds_draw_biased, object_bytes_biased}

-- how many of worlds n - 1 to 0 draw objects before END
unfoldable pub reached_object_worlds_of : List ℕ → ℕ → ℕ
reached_object_worlds_of vram zero = 0
reached_object_worlds_of vram (suc n) =
    pick (end_of (world_of vram n)) 0 (pick (draws_objects_of (world_of vram n)) 1 0 + reached_object_worlds_of vram n)

-- whether object k is of one of the groups that `worlds` object worlds draw, from group `counter` downwards
unfoldable pub in_groups_of : List ℕ → ℕ → ℕ → ℕ → Bool
in_groups_of regs zero counter k = false
in_groups_of regs (suc worlds) counter k = in_group_of regs counter k || in_groups_of regs worlds (counter_after_of counter) k

-- the part of the list that object k has
unfoldable pub object_list_of : (vram regs : List ℕ) (eye x y k : ℕ) → List ℕ
object_list_of vram regs eye x y k =
    pick (worlds_draw_biased vram regs eye x y 32 3 k) (object_bytes_biased (object_of vram k) y) []
