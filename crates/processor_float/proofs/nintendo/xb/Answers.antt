-- `processor_float::nintendo::xb`: the definition's own sum.
use Rattle.std.proofs.Common.{refl, rules}
use Rattle.processor_float.specs.Nintendo.{xb_of}
use Rattle.processor_float.proofs.nintendo.xb.Goals as goal

pub returns : goal.returns
unfolding xb_of
returns c = refl
