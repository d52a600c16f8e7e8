-- `processor_float::conversion::truncated`: the tests in their order.
use Rattle.processor_float.specs.Conversion.{truncated_size_of, truncated_of}
use Rattle.processor_float.proofs.Sizing.{truncated-reaches}
use Rattle.processor_float.proofs.Converting.{within, reserved-converted, invalid-converted, word-converted}
use Rattle.std.proofs.Common.{rules}
use Rattle.processor_float.proofs.conversion.truncated.Goals as goal

pub returns-then-reserved : goal.returns-then-reserved
unfolding truncated_of
returns-then-reserved c = reserved-converted c.args.w (truncated_size_of c.args.w)
    (truncated-reaches c.args.w) _ c.reserved.ensures c.if-reserved.true

pub returns-then-outside : goal.returns-then-outside
unfolding truncated_of
returns-then-outside c = invalid-converted c.args.w (truncated_size_of
    c.args.w) (truncated-reaches c.args.w) _
    c.reserved.ensures _ c.outside.ensures c.if-reserved.false
    c.if-outside.true

pub truncated_size-requires : goal.truncated_size-requires
truncated_size-requires c = within _ _ c.outside.ensures c.if-outside.false

pub returns : goal.returns
unfolding truncated_of
returns c = rw (c.signed_word.ensures, c.truncated_size.ensures) (word-converted
    c.args.w (truncated_size_of
    c.args.w) (truncated-reaches
    c.args.w) _
    c.reserved.ensures _ c.outside.ensures
    c.if-reserved.false c.if-outside.false)
