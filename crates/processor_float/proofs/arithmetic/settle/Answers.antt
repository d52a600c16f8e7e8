-- `processor_float::arithmetic::settle`: by its comparisons.
use Rattle.std.proofs.Common.{◌≡◌, false, rules}
use Rattle.word.proofs.Choices.{and_both}
use Rattle.processor_float.proofs.Settling.{infinity, minus-infinity, overflows, flushes-positive, flushes-negative, zero-stays, stays, above-zero, below-zero, fails-first, fails-second}
use Rattle.processor_float.proofs.arithmetic.settle.Goals as goal
use Rattle.processor_float.proofs.arithmetic.settle.Goals.{then-v-via-then-v, then-v-via-else-v+then-v-2}
use Rattle.processor_float.proofs.arithmetic.settle.Goals.{else-v-3-via-then-v-3+else-v-4, else-v-3-via-else-v-3}
use Rattle.processor_float.proofs.arithmetic.settle.Goals.{else-v-5-via-then-v-5+else-v-6, else-v-5-via-else-v-5}

pub returns-then-v : goal.returns-then-v
returns-then-v c =
    elim c.then-v.branch [
      | then-v-via-then-v w ↦ overflows _ _ c.args.v (rw infinity at w.if-v.true)
      | then-v-via-else-v+then-v-2 w ↦ overflows _ _ c.args.v (rw minus-infinity at w.if-v-2.true)
    ]

pub returns-then-v-4 : goal.returns-then-v-4
returns-then-v-4 c = flushes-positive _ c.args.v (and_both _ _ c.if-v-3.true c.if-v-4.true)

pub returns-then-v-6 : goal.returns-then-v-6
returns-then-v-6 c = flushes-negative _ c.args.v (and_both _ _ c.if-v-5.true c.if-v-6.true)

pub returns-then-v-7 : goal.returns-then-v-7
returns-then-v-7 c = zero-stays _ c.args.v c.well_formed.0.1 c.if-v-7.true

pub returns : goal.returns
returns c =
    let above : above-zero c.args.v ≡ false =
    elim c.else-v-3.branch [
      | else-v-3-via-then-v-3+else-v-4 w ↦ fails-second _ _ w.if-v-4.false
      | else-v-3-via-else-v-3 w ↦ fails-first _ _ w.if-v-3.false
    ]
    in
    let below : below-zero c.args.v ≡ false =
    elim c.else-v-5.branch [
      | else-v-5-via-then-v-5+else-v-6 w ↦ fails-second _ _ w.if-v-6.false
      | else-v-5-via-else-v-5 w ↦ fails-first _ _ w.if-v-5.false
    ]
    in
    stays _ c.args.v (rw infinity at c.if-v.false) (rw minus-infinity at c.if-v-2.false) above below c.if-v-7.false
