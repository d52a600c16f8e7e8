-- `processor_fast_move::branch::jal`: its own case.
use Rattle.std.proofs.Common.{◌≡◌, ◌%◌, sym, refl, ap, ◌∙◌, arith, rules}
use Rattle.processor_execute.specs.Execute.{execute_of}
use Rattle.processor_decode.specs.Format as format
use Rattle.processor_fast_move.proofs.Branches.{extended-even, jump-on, jump-even, sum_moved}
use Rattle.processor_decode.specs.Format as format
use Rattle.processor_decode.specs.Format as format
use Rattle.processor_decode.specs.Format as format
use Rattle.processor_fast_move.proofs.branch.jal.Goals as goal

pub returns : goal.returns
unfolding execute_of
returns c = λ m psw sys even aligned.
    let a = c.args in
    let d : format.disp_of a.f a.s % 2 ≡ 0 = extended-even 33554432 _ (omega arith) (omega arith) in
    rw (
      c.target-to.ensures,
      c.put.ensures,
      c.wrapping_add_u32-link.ensures.value,
      c.after_two.ensures,
      sum_moved a.base a.x 4,
    )
    (rw (jump-on a.base a.x _ even aligned d), jump-even a.base a.x _ even aligned d)
