-- `processor_fast_compute::floating::cmpf`: by the comparison.
use Rattle.std.proofs.Common.{◌≡◌, true, false, sym, refl, ap, ◌∙◌, rules}
use Rattle.processor_execute.specs.Execute.{execute_of}
use Rattle.processor_fast_compute.proofs.Results.{after_two, two-even}
use Rattle.processor_fast_compute.proofs.Floats.{order-over, goes-on}
use Rattle.processor_fast_compute.proofs.floating.cmpf.Goals as goal

pub returns-in-Lower : goal.returns-in-Lower
unfolding execute_of
returns-in-Lower c = λ m base psw sys even aligned.
    let a = c.args in
    rw (
      c.ordered.ensures,
      ← c.reg2-a.ensures,
      ← c.reg1-b.ensures,
      ← c.compare.ensures,
      c.in-Lower.is,
    )
    (goes-on base a.x psw a.regs.now _ sys a.flags m _ _ (after_two base a.x) (two-even a.x aligned) _ _ _
    (c.lower.ensures psw ∙ sym (order-over psw a.flags false true)) refl)

pub returns-in-Equal : goal.returns-in-Equal
unfolding execute_of
returns-in-Equal c = λ m base psw sys even aligned.
    let a = c.args in
    rw (
      c.ordered-in-Equal.ensures,
      ← c.reg2-a.ensures,
      ← c.reg1-b.ensures,
      ← c.compare.ensures,
      c.in-Equal.is,
    )
    (goes-on base a.x psw a.regs.now _ sys a.flags m _ _ (after_two base a.x) (two-even a.x aligned) _ _ _
    (c.equal.ensures psw ∙ sym (order-over psw a.flags true false)) refl)

pub returns-in-Higher : goal.returns-in-Higher
unfolding execute_of
returns-in-Higher c = λ m base psw sys even aligned.
    let a = c.args in
    rw (
      c.ordered-in-Higher.ensures,
      ← c.reg2-a.ensures,
      ← c.reg1-b.ensures,
      ← c.compare.ensures,
      c.in-Higher.is,
    )
    (goes-on base a.x psw a.regs.now _ sys a.flags m _ _ (after_two base a.x) (two-even a.x aligned) _ _ _
    (c.higher.ensures psw ∙ sym (order-over psw a.flags false false)) refl)
