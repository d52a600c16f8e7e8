-- `saved::records::lines` meets its contract. Assumes nothing.
use Rattle.saved.specs.Body.{lines_of}
use mathlib.Core.Path.{refl}
use Rattle.saved.proofs.records.lines.Goals as goal

pub returns : goal.returns
unfolding lines_of
returns c = refl
