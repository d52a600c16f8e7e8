-- `saved_layout::contents::stored_sums` meets its contract. Assumes nothing.
use Rattle.saved_layout.proofs.Written.{contents-plain, contents-summed}
use Rattle.saved_layout.proofs.contents.stored_sums.Goals as goal

pub sums-requires : goal.sums-requires
sums-requires c = rw c.in-Two.is at c.requires

pub returns-in-One : goal.returns-in-One
returns-in-One c = contents-plain _ _ _ _ c.in-One.is

pub returns-in-Two : goal.returns-in-Two
returns-in-Two c = contents-summed _ _ _ _ c.in-Two.is c.sums.ensures
