-- `processor_fast_compute::arithmetic::movhi`: its own case.
use Rattle.std.proofs.Common.{true, rules}
use Rattle.processor_execute.specs.Execute.{execute_of}
use Rattle.processor_fast_compute.proofs.Results.{value-does}
use Rattle.processor_fast_compute.proofs.arithmetic.movhi.Goals as goal

pub returns : goal.returns
unfolding execute_of
returns c = λ m base psw sys even aligned.
    let a = c.args in
    value-does true base a.x psw _ _ _ sys a.flags m _ _ aligned c.after_two.ensures _
    (rw (c.wrapping_add_u32-v.ensures.value, c.reg1-a.ensures) at c.value.ensures)
