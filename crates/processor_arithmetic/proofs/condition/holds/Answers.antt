-- `processor_arithmetic::condition::holds`: the bit of the condition's row that the flags name.
use Rattle.std.proofs.Common.{◌∙◌, arith, rules}
use Rattle.processor_arithmetic.proofs.Table.{condition-low}
use Rattle.processor_arithmetic.proofs.condition.holds.Goals as goal

pub returns : goal.returns
returns c =
    let a = c.args in
    c.row.ensures _ (omega arith) ∙ condition-low a.cond a.psw
