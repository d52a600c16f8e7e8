-- `processor_fast_compute::arithmetic::cmp_immediate`: its own case.
use Rattle.processor_execute.specs.Execute.{execute_of}
use Rattle.processor_fast_compute.proofs.Results.{after_one, one-even, compare-does}
use Rattle.std.proofs.Common.{rules}
use Rattle.processor_fast_compute.proofs.arithmetic.cmp_immediate.Goals as goal

pub returns : goal.returns
unfolding execute_of
returns c = λ m base psw sys even aligned.
    let a = c.args in
    let e = rw (c.reg2-a.ensures, c.extend5-b.ensures) at (c.sub-o.ensures psw a.flags) in
    rw c.after_one.ensures (compare-does base a.x psw _ _ sys a.flags m _ _ (after_one base a.x) (one-even a.x aligned) _ _ e)
