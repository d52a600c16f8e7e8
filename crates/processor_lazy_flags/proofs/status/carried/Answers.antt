-- `processor_lazy_flags::status::carried`: by the two values of CY.
use Rattle.std.proofs.Common.{◌≡◌, sym, refl, ap, ◌∙◌, arith, rules}
use Rattle.processor_lazy_flags.proofs.Sums.{carried-holds}
use Rattle.processor_lazy_flags.proofs.status.carried.Goals as goal

pub returns : goal.returns
returns c = carried-holds _ c.args.cy c.requires (omega arith) c.from.ensures
