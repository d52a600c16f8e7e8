-- `processor_float::flag::comparison_flags`: by the comparison.
use Rattle.std.proofs.Common.{rules}
use Rattle.processor_float.proofs.flag.comparison_flags.Goals as goal

pub returns-in-Lower : goal.returns-in-Lower
returns-in-Lower c = rw c.in-Lower.is c.order_flags.ensures

pub returns-in-Equal : goal.returns-in-Equal
returns-in-Equal c = rw c.in-Equal.is c.order_flags-in-Equal.ensures

pub returns-in-Higher : goal.returns-in-Higher
returns-in-Higher c = rw c.in-Higher.is c.order_flags-in-Higher.ensures
