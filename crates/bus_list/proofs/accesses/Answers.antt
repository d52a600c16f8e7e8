-- `bus_list::accesses`: what is left of the list follows the list from the start. Assumes nothing.
use Rattle.bus_list.specs.List.{count_of}
use Rattle.bus_list.proofs.Sizes.{list-sizes}
use Rattle.bus_list.proofs.InOrder.{follows-start, follows_next, follows-finished}
use Rattle.bus_list.proofs.accesses.Goals as goal

pub loop-k-init : goal.loop-k-init
loop-k-init c = follows-start _ _ _ (list-sizes _ c.requires.1)

pub loop-k-preserved : goal.loop-k-preserved
loop-k-preserved c = follows_next _ _ _ _ _ _ c.loop-k.invariant c.loop-k-test.true _ c.access.ensures

pub returns : goal.returns
unfolding count_of
returns c = follows-finished _ _ _ _ _ _ c.loop-k.invariant c.loop-k-test.false
