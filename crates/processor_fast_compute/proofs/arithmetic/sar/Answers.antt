-- `processor_fast_compute::arithmetic::sar`: its own case.
use Rattle.std.proofs.Common.{false, rules}
use Rattle.processor_execute.specs.Execute.{execute_of}
use Rattle.processor_fast_compute.proofs.Results.{result-does}
use Rattle.processor_fast_compute.proofs.arithmetic.sar.Goals as goal

pub returns : goal.returns
unfolding execute_of
returns c = λ m base psw sys even aligned.
    let a = c.args in
    result-does false base a.x psw _ _ _ sys a.flags m _ _ aligned c.after_one.ensures _ _
    (rw (c.reg2-a.ensures, c.reg1-b.ensures)
    at (c.sar-o.ensures psw a.flags)) c.result.ensures
