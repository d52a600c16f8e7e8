-- `processor_float::flag::conversion_flags`: OV is cleared and CY kept.
use Rattle.processor_float.specs.Flag.{conversion_flags_of}
use Rattle.std.proofs.Common.{rules}
use Rattle.processor_float.proofs.flag.conversion_flags.Goals as goal

pub returns : goal.returns
unfolding conversion_flags_of
returns c = c.keep_carry.ensures
