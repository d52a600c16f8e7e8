-- `processor_fast_compute::floating::settle`: by the outcome.
use Rattle.std.proofs.Common.{◌≡◌, sym, refl, ap, ◌∙◌, rules}
use Rattle.processor_fast_compute.proofs.Results.{after_two, two-even}
use Rattle.processor_fast_compute.proofs.Floats.{number-over, goes-on}
use Rattle.processor_float.specs.Flag.{conversion_flags_of}
use Rattle.processor_fast_compute.proofs.floating.settle.Goals as goal

pub returns-else-underflowed : goal.returns-else-underflowed
returns-else-underflowed c = λ m base psw sys even aligned.
    let a = c.args in
    let w = c.word_of-w in
    rw (c.in-Number.is, c.if-underflowed.false, c.after_two.ensures)
    (goes-on base a.x psw a.regs.now _ sys a.flags m _ _ (after_two base a.x) (two-even a.x aligned) _ _ _
    (rw w.ensures at (c.number-g.ensures psw ∙ sym (number-over psw a.flags w.result))) (rw w.ensures at c.put.ensures))

pub returns-in-Word : goal.returns-in-Word
unfolding conversion_flags_of
returns-in-Word c = λ m base psw sys even aligned.
    let a = c.args in
    rw (c.in-Word.is, c.after_two-in-Word.ensures)
    (goes-on base a.x psw a.regs.now _ sys a.flags m _ _ (after_two base a.x) (two-even a.x aligned) _ _ _
    (c.value-g.ensures psw).flags c.put-in-Word.ensures)
