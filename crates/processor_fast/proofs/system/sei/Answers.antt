-- `processor_fast::system::sei`: its own case.
use Rattle.processor_execute.specs.Execute.{execute_of}
use Rattle.processor_fast_compute.proofs.Results.{after_one}
use Rattle.processor_fast.proofs.Acceptance.{accepts-id}
use Rattle.processor_fast.proofs.Turning.{packed-set}
use Rattle.std.proofs.Common.{rules}
use Rattle.processor_fast.proofs.system.sei.Goals as goal

pub returns : goal.returns
unfolding execute_of
returns c = λ lines regs sys m base aligned.
    let a = c.args in (
      rw (c.set_id.ensures, packed-set a.psw a.flags, after_one base a.x),
      λ u. rw c.set_id.ensures (accepts-id lines a.psw),
    )
