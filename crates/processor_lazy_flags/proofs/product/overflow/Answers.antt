-- `processor_lazy_flags::product::overflow`: by the high word.
use Rattle.std.proofs.Common.{◌≡◌, ◌+◌, ◌-◌, ◌*◌, ◌/◌, ◌%◌, ◌^◌, ◌<◌, sym, refl, ap, ◌∙◌, arith, rules}
use Rattle.processor_lazy_flags.proofs.Products.{overflow-none, overflow-some}
use Rattle.processor_lazy_flags.proofs.product.overflow.Goals as goal

pub returns-then-high-low : goal.returns-then-high-low
returns-then-high-low c = (sym (overflow-none _ _ (omega arith) c.if-high-low.true), omega arith)

pub returns : goal.returns
returns c = (sym (overflow-some _ _ (omega arith) c.if-high-low.false), omega arith)
