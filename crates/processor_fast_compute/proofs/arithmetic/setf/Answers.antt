-- `processor_fast_compute::arithmetic::setf`: its own case.
use Rattle.std.proofs.Common.{false, rules}
use Rattle.processor_execute.specs.Execute.{execute_of}
use Rattle.processor_fast_compute.proofs.Results.{value-does}
use Rattle.processor_fast_compute.proofs.arithmetic.setf.Goals as goal

pub returns : goal.returns
unfolding execute_of
returns c = λ m base psw sys even aligned.
    let a = c.args in
    value-does false base a.x psw _ _ _ sys a.flags m _ _ aligned c.after_one.ensures _
    (rw (c.bit-v.ensures.0, c.holds.ensures psw) at c.value.ensures)
