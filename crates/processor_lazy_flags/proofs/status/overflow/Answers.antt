-- `processor_lazy_flags::status::overflow`: the law of the signs.
use Rattle.std.proofs.Common.{◌≡◌, ℕ, ◌+◌, ◌-◌, ◌*◌, ◌/◌, ◌%◌, ◌^◌, ◌<◌, sym, refl, ap, ◌∙◌, arith, rules}
use Rattle.processor_arithmetic.proofs.Overflow.{sum-overflow-signs}
use Rattle.processor_lazy_flags.proofs.status.overflow.Goals as goal

pub returns : goal.returns
returns c =
    let g = c.args.flags.addition in
    sum-overflow-signs (g % 2 ^ 32) _ (g / 2 ^ 32) (omega arith) (omega arith) (omega arith)
