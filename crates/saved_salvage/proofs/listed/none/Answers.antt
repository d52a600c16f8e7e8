-- `saved_salvage::listed::none` meets its contract. Assumes nothing.
use Rattle.saved_salvage.specs.Listed.{listed_kinds_of}
use mathlib.Core.Path.{refl}
use Rattle.saved_salvage.proofs.listed.none.Goals as goal

pub returns : goal.returns
unfolding listed_kinds_of
returns c = refl
