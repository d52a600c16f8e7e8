-- `processor_lazy_flags::condition::holds`: each number's test, or the opposite of one.
use Rattle.std.proofs.Common.{◌≡◌, ◌%◌, not, ap, ◌∙◌, arith, rules}
use Rattle.processor_lazy_flags.specs.inner.Packed.{packed_of}
use Rattle.processor_lazy_flags.proofs.Tests.{same-condition, opposite, opposite-back, always, never}
use Rattle.processor_lazy_flags.proofs.condition.holds.Goals as goal

pub returns-in-0 : goal.returns-in-0
returns-in-0 c = λ psw. c.overflowed.ensures psw ∙ same-condition _ _ _ c.in-0.is

pub returns-in-1 : goal.returns-in-1
returns-in-1 c = λ psw. c.carry.ensures psw ∙ same-condition _ _ _ c.in-1.is

pub returns-in-2 : goal.returns-in-2
returns-in-2 c = λ psw. c.zero.ensures psw ∙ same-condition _ _ _ c.in-2.is

pub returns-in-3 : goal.returns-in-3
returns-in-3 c = λ psw. ap not (c.higher.ensures psw) ∙ opposite-back (packed_of psw _) 3 (omega arith) ∙ same-condition _ _ _ c.in-3.is

pub returns-in-4 : goal.returns-in-4
returns-in-4 c = λ psw. c.negative.ensures psw ∙ same-condition _ _ _ c.in-4.is

pub returns-in-5 : goal.returns-in-5
returns-in-5 c = λ psw. always (packed_of psw _) ∙ same-condition _ _ _ c.in-5.is

pub returns-in-6 : goal.returns-in-6
returns-in-6 c = λ psw. c.less.ensures psw ∙ same-condition _ _ _ c.in-6.is

pub returns-in-7 : goal.returns-in-7
returns-in-7 c = λ psw. ap not (c.greater.ensures psw) ∙ opposite-back (packed_of psw _) 7 (omega arith) ∙ same-condition _ _ _ c.in-7.is

pub returns-in-8 : goal.returns-in-8
returns-in-8 c = λ psw. ap not (c.overflowed-in-8.ensures psw) ∙ opposite (packed_of psw _) 0 (omega arith) ∙ same-condition _ _ _ c.in-8.is

pub returns-in-9 : goal.returns-in-9
returns-in-9 c = λ psw. ap not (c.carry-in-9.ensures psw) ∙ opposite (packed_of psw _) 1 (omega arith) ∙ same-condition _ _ _ c.in-9.is

pub returns-in-10 : goal.returns-in-10
returns-in-10 c = λ psw. ap not (c.zero-in-10.ensures psw) ∙ opposite (packed_of psw _) 2 (omega arith) ∙ same-condition _ _ _ c.in-10.is

pub returns-in-11 : goal.returns-in-11
returns-in-11 c = λ psw. c.higher-in-11.ensures psw ∙ same-condition _ _ _ c.in-11.is

pub returns-in-12 : goal.returns-in-12
returns-in-12 c = λ psw. ap not (c.negative-in-12.ensures psw) ∙ opposite (packed_of psw _) 4 (omega arith) ∙ same-condition _ _ _ c.in-12.is

pub returns-in-13 : goal.returns-in-13
returns-in-13 c = λ psw. never (packed_of psw _) ∙ same-condition _ _ _ c.in-13.is

pub returns-in-14 : goal.returns-in-14
returns-in-14 c = λ psw. ap not (c.less-in-14.ensures psw) ∙ opposite (packed_of psw _) 6 (omega arith) ∙ same-condition _ _ _ c.in-14.is

pub returns-in_default : goal.returns-in_default
returns-in_default c = λ psw.
    let k : c.args.cond % 16 ≡ 15 = omega arith in
    c.greater-in_default.ensures psw ∙ same-condition _ _ _ k
