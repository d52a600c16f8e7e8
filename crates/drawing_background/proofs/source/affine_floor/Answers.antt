-- `drawing_background::source::affine_floor` meets its contract: the sum, without what is below one. Assumes nothing.
use Rattle.drawing_pixel.specs.inner.BiasedSource.{affine_floor_biased}
use Rattle.drawing_background.specs.inner.Row.{affine_sum_of}
use Rattle.drawing_background.proofs.source.affine_floor.Goals as goal

pub affine_sum-requires : goal.affine_sum-requires
affine_sum-requires c = c.requires

pub returns : goal.returns
unfolding affine_floor_biased affine_sum_of
returns c = rw c.affine_sum.ensures
