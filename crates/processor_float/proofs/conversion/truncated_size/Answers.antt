-- `processor_float::conversion::truncated_size`: by the exponent's field.
use Rattle.std.proofs.Common.{sym, arith, rules}
use Rattle.processor_float.proofs.Sizing.{truncated-none, truncated-part}
use Rattle.processor_float.proofs.Fraction.{truncated-shifted}
use Rattle.processor_float.proofs.conversion.truncated_size.Goals as goal

pub returns-in-0-to-126 : goal.returns-in-0-to-126
returns-in-0-to-126 c = sym (truncated-none c.args.w (omega arith))

pub returns-in-127-to-149 : goal.returns-in-127-to-149
returns-in-127-to-149 c = sym (truncated-part c.args.w (omega arith) (omega arith))

pub returns-in_default : goal.returns-in_default
returns-in_default c = truncated-shifted c.args.w c.requires (omega arith)
