-- `processor_float::nintendo::mpyhw`: the low word of the product.
use Rattle.std.proofs.Common.{rules}
use Rattle.processor_float.specs.Nintendo.{mpyhw_of}
use Rattle.processor_float.proofs.nintendo.mpyhw.Goals as goal

pub returns : goal.returns
unfolding mpyhw_of
returns c = rw c.extend.ensures
