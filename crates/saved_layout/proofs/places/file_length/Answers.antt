-- `saved_layout::places::file_length` meets its contract. Assumes nothing.
use native.Mathlib.Omega.{arith}
use Rattle.saved_layout.proofs.Positions.{length-is}
use Rattle.saved_layout.proofs.places.file_length.Goals as goal

pub returns : goal.returns
returns c = omega (arith, length-is c.args.form c.args.pak)
