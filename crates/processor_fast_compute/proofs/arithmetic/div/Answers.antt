-- `processor_fast_compute::arithmetic::div`: its own case.
use Rattle.std.proofs.Common.{false, sym, ◌∙◌, rules, ne_eqb}
use Rattle.processor_execute.specs.Execute.{execute_of}
use Rattle.processor_fast_compute.proofs.Results.{pair-does}
use Rattle.processor_fast_compute.proofs.arithmetic.div.Goals as goal

pub returns : goal.returns
unfolding execute_of
returns c = λ m base psw sys even aligned.
    let a = c.args in
    rw (ne_eqb _ _ (rw c.reg1-b.ensures at c.if-b-eq0.false))
    (pair-does false base a.x psw _ _ _ sys a.flags m _ _ aligned c.after_one.ensures _ _
    (rw (c.reg2-a.ensures, c.reg1-b.ensures)
    at (c.div-p.ensures psw)) c.pair.ensures)
