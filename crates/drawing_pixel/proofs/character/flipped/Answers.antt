-- `drawing_pixel::character::flipped` meets its contract. Assumes nothing.
use native.Mathlib.Omega.{arith}
use Rattle.drawing_pixel.specs.Character.{flipped_of}
use Rattle.drawing_pixel.proofs.character.flipped.Goals as goal

pub returns-then-flip : goal.returns-then-flip
unfolding flipped_of
returns-then-flip c = (rw c.if-flip.true, omega arith)

pub returns : goal.returns
unfolding flipped_of
returns c = (rw c.if-flip.false, omega arith)
