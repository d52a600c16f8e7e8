-- `drawing_pixel::object::object` meets its contract: each halfword is read at its place. Assumes nothing.
use native.Mathlib.Nat.{add-zero}
use Rattle.drawing_pixel.specs.Lists.{list_of}
use Rattle.drawing_pixel.specs.Object.{object_of}
use Rattle.drawing_pixel.proofs.object.object.Goals as goal

pub returns : goal.returns
unfolding object_of list_of
returns c = rw (c.half-4.ensures, c.half-3.ensures, c.half-2.ensures, c.half.ensures, add-zero)
