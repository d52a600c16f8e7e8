-- `processor_fast_compute::floating::addf`: its own case.
use Rattle.processor_execute.specs.Execute.{execute_of}
use Rattle.std.proofs.Common.{rules}
use Rattle.processor_fast_compute.proofs.floating.addf.Goals as goal

pub returns : goal.returns
unfolding execute_of
returns c = λ m base psw sys even aligned. rw (
  c.operate-o.ensures,
  c.reg2-a.ensures,
  c.reg1-b.ensures,
) at (c.settle.ensures m base psw sys even aligned)
