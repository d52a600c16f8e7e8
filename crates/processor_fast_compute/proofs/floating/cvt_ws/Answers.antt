-- `processor_fast_compute::floating::cvt_ws`: its own case.
use Rattle.processor_execute.specs.Execute.{execute_of}
use Rattle.std.proofs.Common.{rules}
use Rattle.processor_fast_compute.proofs.floating.cvt_ws.Goals as goal

pub returns : goal.returns
unfolding execute_of
returns c = λ m base psw sys even aligned. rw
    (c.float_of.ensures, c.reg1-b.ensures) at
    (c.settle.ensures m base psw sys even aligned)
