-- `processor_fast_compute::floating::trnc_sw`: its own case.
use Rattle.processor_execute.specs.Execute.{execute_of}
use Rattle.std.proofs.Common.{rules}
use Rattle.processor_fast_compute.proofs.floating.trnc_sw.Goals as goal

pub returns : goal.returns
unfolding execute_of
returns c = λ m base psw sys even aligned. rw
    (c.truncated-o.ensures, c.reg1-b.ensures) at
    (c.settle.ensures m base psw sys even aligned)
