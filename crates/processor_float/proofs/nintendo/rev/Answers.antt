-- `processor_float::nintendo::rev`: bit by bit.
use Rattle.std.proofs.Common.{◌≡◌, ◌+◌, ◌*◌, ◌^◌, ◌∙◌, arith, rules}
use Rattle.processor_float.specs.Nintendo.{reversed_of, rev_of}
use Rattle.processor_float.proofs.Reversal.{reversed_onto}
use Rattle.processor_float.proofs.nintendo.rev.Goals as goal

pub returns : goal.returns
unfolding rev_of
returns c =
    let none : 0 * 2 ^ 32 + reversed_of 32 c.args.w ≡ reversed_of 32 c.args.w = omega arith in
    c.reverse_bits.ensures ∙ reversed_onto 32 c.args.w 0 ∙ none
