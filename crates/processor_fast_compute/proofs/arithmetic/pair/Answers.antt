-- `processor_fast_compute::arithmetic::pair`: the value is a word.
use Rattle.std.proofs.Common.{◌≡◌, ◌%◌, ◌^◌, refl, arith, rules}
use Rattle.processor_fast_compute.proofs.arithmetic.pair.Goals as goal

pub returns : goal.returns
returns c =
    let g = c.args.p.flags in
    let v : g.value % 2 ^ 32 ≡ g.value = omega arith in
    (rw (v, ← c.put.ensures) c.put-2.ensures, refl)
