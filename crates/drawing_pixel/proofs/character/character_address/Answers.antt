-- `drawing_pixel::character::character_address` meets its contract. Assumes nothing.
use native.Mathlib.Omega.{arith}
use mathlib.Core.Path.{refl}
use Rattle.drawing_pixel.specs.Character.{character_address_of}
use Rattle.drawing_pixel.proofs.character.character_address.Goals as goal

pub returns : goal.returns
unfolding character_address_of
returns c = (refl, omega arith)
