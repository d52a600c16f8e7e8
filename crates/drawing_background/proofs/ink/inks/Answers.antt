-- `drawing_background::ink::inks` meets its contract: three shades stay within 64 bits at every row. Assumes nothing.
use Rattle.std.proofs.Common.{arith}
use Rattle.drawing_pixel.specs.Character.{two_bits_of}
use Rattle.drawing_background.specs.inner.Row.{inks_of}
use Rattle.drawing_background.proofs.Inks.{inks-fit}
use Rattle.drawing_background.proofs.ink.inks.Goals as goal

pub returns : goal.returns
unfolding inks_of two_bits_of
returns c = inks-fit _ _ _ (omega arith) (omega arith) (omega arith) c.args.r c.requires
