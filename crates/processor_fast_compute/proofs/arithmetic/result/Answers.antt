-- `processor_fast_compute::arithmetic::result`: the value is a word.
use Rattle.std.proofs.Common.{◌≡◌, ◌%◌, ◌^◌, refl, arith, rules}
use Rattle.processor_fast_compute.proofs.arithmetic.result.Goals as goal

pub returns : goal.returns
returns c =
    let g = c.args.flags in
    let v : g.value % 2 ^ 32 ≡ g.value = omega arith in
    (rw v c.put.ensures, refl)
