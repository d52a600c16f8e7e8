-- `processor_fast_compute::arithmetic::ori`: its own case.
use Rattle.std.proofs.Common.{true, rules}
use Rattle.processor_execute.specs.Execute.{execute_of}
use Rattle.processor_fast_compute.proofs.Results.{result-does}
use Rattle.processor_fast_compute.proofs.arithmetic.ori.Goals as goal

pub returns : goal.returns
unfolding execute_of
returns c = λ m base psw sys even aligned.
    let a = c.args in
    result-does true base a.x psw _ _ _ sys a.flags m _ _ aligned c.after_two.ensures _ _
    (rw c.reg1-a.ensures at (c.or-o.ensures psw)) c.result.ensures
