-- `processor_lazy_flags::status::made`: by the values of CY and OV.
use Rattle.std.proofs.Common.{◌≡◌, sym, refl, ap, ◌∙◌, arith, rules}
use lib.Bits.{xor_lt}
use Rattle.processor_lazy_flags.proofs.Sums.{made_holds}
use Rattle.processor_lazy_flags.proofs.status.made.Goals as goal

pub returns : goal.returns
returns c =
    let a = c.args in
    made_holds _ a.cy a.ov c.requires.0 c.requires.1 (omega arith) c.joined.ensures
