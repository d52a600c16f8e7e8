-- `drawing_pixel::world::world_at` meets its contract: each halfword is read at its place. Assumes nothing.
use native.Mathlib.Nat.{add-zero}
use Rattle.drawing_pixel.specs.Lists.{list_of}
use Rattle.drawing_pixel.specs.World.{world_of}
use Rattle.drawing_pixel.proofs.world.world_at.Goals as goal

pub returns : goal.returns
unfolding world_of list_of
returns c = rw (
  c.half-11.ensures,
  c.half-10.ensures,
  c.half-9.ensures,
  c.half-8.ensures,
  c.half-7.ensures,
  c.half-6.ensures,
  c.half-5.ensures,
  c.half-4.ensures,
  c.half-3.ensures,
  c.half-2.ensures,
  c.half.ensures,
  add-zero,
)
