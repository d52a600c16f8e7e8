-- `processor_lazy_flags::condition::higher`: neither CY nor Z.
use Rattle.std.proofs.Common.{◌≡◌, sym, refl, ap, ◌∙◌, rules}
use borrow.Author.Tests.{not-true}
use Rattle.processor_lazy_flags.specs.inner.Packed.{packed_of}
use Rattle.processor_lazy_flags.proofs.Tests.{higher-carry, higher-none}
use Rattle.processor_lazy_flags.proofs.condition.higher.Goals as goal

pub returns-then-carry : goal.returns-then-carry
returns-then-carry c = λ psw. higher-carry (packed_of psw _) (sym (c.carry.ensures psw) ∙ c.if-carry.true)

pub returns : goal.returns
returns c = λ psw. rw (c.zero.ensures psw) (higher-none (packed_of psw _) (sym (c.carry.ensures psw) ∙ c.if-carry.false))
