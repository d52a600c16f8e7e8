-- `processor_float::conversion::nearest`: the tests in their order.
use Rattle.processor_float.specs.Conversion.{nearest_size_of, nearest_of}
use Rattle.processor_float.proofs.Sizing.{nearest-reaches}
use Rattle.processor_float.proofs.Converting.{within, reserved-converted, invalid-converted, word-converted}
use Rattle.std.proofs.Common.{rules}
use Rattle.processor_float.proofs.conversion.nearest.Goals as goal

pub returns-then-reserved : goal.returns-then-reserved
unfolding nearest_of
returns-then-reserved c = reserved-converted c.args.w (nearest_size_of c.args.w)
    (nearest-reaches c.args.w) _ c.reserved.ensures c.if-reserved.true

pub returns-then-outside : goal.returns-then-outside
unfolding nearest_of
returns-then-outside c = invalid-converted c.args.w (nearest_size_of
    c.args.w) (nearest-reaches c.args.w) _
    c.reserved.ensures _ c.outside.ensures c.if-reserved.false
    c.if-outside.true

pub nearest_size-requires : goal.nearest_size-requires
nearest_size-requires c = within _ _ c.outside.ensures c.if-outside.false

pub returns : goal.returns
unfolding nearest_of
returns c = rw (c.signed_word.ensures, c.nearest_size.ensures) (word-converted
    c.args.w (nearest_size_of
    c.args.w) (nearest-reaches
    c.args.w) _
    c.reserved.ensures _ c.outside.ensures
    c.if-reserved.false c.if-outside.false)
