-- `processor_fast_compute::arithmetic::movea`: its own case.
use Rattle.std.proofs.Common.{true, rules}
use Rattle.processor_execute.specs.Execute.{execute_of}
use Rattle.processor_fast_compute.proofs.Results.{value-does}
use Rattle.processor_fast_compute.proofs.arithmetic.movea.Goals as goal

pub returns : goal.returns
unfolding execute_of
returns c = λ m base psw sys even aligned.
    let b = c in
    let a = b.args in
    value-does true base a.x psw _ _ _ sys a.flags m _ _ aligned c.after_two.ensures _
    (rw (b.wrapping_add_u32-v.ensures.value, b.extend16.ensures, b.reg1-a.ensures) at c.value.ensures)
