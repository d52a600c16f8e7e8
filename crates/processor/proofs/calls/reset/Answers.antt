-- `processor::calls::reset`: the definition's own values.
use Rattle.bus.specs.TimerLines.{hardware_in}
use Rattle.processor.specs.Calls.{reset_of}
use Rattle.processor.proofs.calls.reset.Goals as goal

pub returns : goal.returns
unfolding reset_of hardware_in
returns c = rw c.reset.ensures
