-- `processor_lazy_flags::status::cleared`: by whether CY is set.
use Rattle.std.proofs.Common.{◌≡◌, ◌+◌, ◌-◌, ◌/◌, ◌%◌, ◌^◌, refl, arith, rules}
use Rattle.processor_lazy_flags.proofs.Sums.{cleared-holds}
use Rattle.processor_lazy_flags.proofs.status.cleared.Goals as goal

pub returns : goal.returns
returns c =
    let g = c.args.flags.addition in
    let d = (g / 2 ^ 32 + (2 ^ 64 - g % 2 ^ 32)) % 2 ^ 64 in
    cleared-holds _ c.args.flags d (omega arith) (omega arith) (omega arith) (omega arith) refl
