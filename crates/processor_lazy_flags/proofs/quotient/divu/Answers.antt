-- `processor_lazy_flags::quotient::divu`: CY stays, OV is clear.
use Rattle.std.proofs.Common.{◌≡◌, sym, refl, ap, ◌∙◌, rules}
use Rattle.processor_arithmetic.specs.Quotient.{divide_unsigned_of}
use Rattle.processor_lazy_flags.proofs.Kept.{gives-pair}
use Rattle.processor_lazy_flags.proofs.quotient.divu.Goals as goal

pub returns : goal.returns
unfolding divide_unsigned_of
returns c = λ psw.
    gives-pair psw c.args.flags _ _ _ _ refl c.cleared-flags.ensures
