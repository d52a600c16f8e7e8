-- `processor_lazy_flags::bitwise::value`: CY stays, OV is clear.
use Rattle.std.proofs.Common.{◌≡◌, sym, refl, ap, ◌∙◌, rules}
use Rattle.processor_lazy_flags.proofs.Kept.{gives-kept}
use Rattle.processor_lazy_flags.proofs.bitwise.value.Goals as goal

pub returns : goal.returns
returns c = λ psw. gives-kept psw c.args.flags _ _ _ c.cleared.ensures
