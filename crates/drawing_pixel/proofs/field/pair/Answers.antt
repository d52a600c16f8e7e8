-- `drawing_pixel::field::pair` meets its contract. Assumes nothing.
use native.Mathlib.Omega.{arith}
use mathlib.Core.Path.{refl}
use Rattle.drawing_pixel.specs.Character.{two_bits_of}
use Rattle.drawing_pixel.proofs.field.pair.Goals as goal

pub returns : goal.returns
unfolding two_bits_of
returns c = (refl, omega arith)
