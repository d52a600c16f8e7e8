-- `processor_float::conversion::nearest_size`: by the exponent's field.
use Rattle.std.proofs.Common.{sym, ◌∙◌, arith, rules}
use Rattle.processor_float.proofs.Sizing.{nearest-none, nearest-part}
use Rattle.processor_float.proofs.Fraction.{nearest-shifted}
use Rattle.processor_float.proofs.conversion.nearest_size.Goals as goal

pub returns-in-0-to-125 : goal.returns-in-0-to-125
returns-in-0-to-125 c = sym (nearest-none c.args.w (omega arith))

pub returns-in-126-to-149 : goal.returns-in-126-to-149
returns-in-126-to-149 c = c.rounded.ensures ∙ sym (nearest-part c.args.w (omega arith) (omega arith))

pub returns-in_default : goal.returns-in_default
returns-in_default c = nearest-shifted c.args.w c.requires (omega arith)
