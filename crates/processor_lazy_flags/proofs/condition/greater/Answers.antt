-- `processor_lazy_flags::condition::greater`: neither Z nor a difference of OV and S.
use Rattle.std.proofs.Common.{◌≡◌, sym, refl, ap, ◌∙◌, rules}
use Rattle.processor_lazy_flags.specs.inner.Packed.{packed_of}
use Rattle.processor_lazy_flags.proofs.Tests.{greater-zero, greater-none}
use Rattle.processor_lazy_flags.proofs.condition.greater.Goals as goal

pub returns-then-zero : goal.returns-then-zero
returns-then-zero c = λ psw. greater-zero (packed_of psw _) (sym (c.zero.ensures psw) ∙ c.if-zero.true)

pub returns : goal.returns
returns c = λ psw. rw (c.less.ensures psw) (greater-none (packed_of psw _) (sym (c.zero.ensures psw) ∙ c.if-zero.false))
