-- `processor_replay::records::sum`: what is summed so far and what is left come to the whole sum.
use Rattle.std.proofs.Common.{refl}
use Rattle.processor_replay.proofs.Sums.{summed-none, summed-next, summed-all}
use Rattle.processor_replay.proofs.records.sum.Goals as goal

pub loop-i-init : goal.loop-i-init
loop-i-init c = summed-none _

pub loop-i-preserved : goal.loop-i-preserved
loop-i-preserved c = summed-next _ _ _ _ c.loop-i.invariant c.loop-i-test.true refl

pub returns : goal.returns
returns c = summed-all _ _ _ c.loop-i.invariant c.loop-i-test.false
