-- `processor_float::nintendo::xh`: the two halves have no bit in common.
use Rattle.std.proofs.Common.{◌≡◌, ◌*◌, ◌/◌, ◌%◌, ◌^◌, ◌∙◌, arith, rules}
use Rattle.std.proofs.lemmas.Nat.{or_shifted}
use Rattle.processor_float.specs.Nintendo.{xh_of}
use Rattle.processor_float.proofs.nintendo.xh.Goals as goal

pub returns : goal.returns
unfolding xh_of
returns c =
    let w = c.args.w in
    let high : w * 2 ^ 16 % 2 ^ 32 ≡ w % 2 ^ 16 * 2 ^ 16 = omega arith in
    c.rotate_left.ensures ∙ rw high (or_shifted (w % 2 ^ 16) 16 (w / 2 ^ 16) (omega arith))
