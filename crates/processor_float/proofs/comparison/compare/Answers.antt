-- `processor_float::comparison::compare`: the tests in their order.
use Rattle.std.proofs.Common.{sym, ◌∙◌, rules}
use Rattle.processor_float.specs.Comparison.{comparison_of}
use Rattle.processor_float.proofs.Tested.{no_nan}
use Rattle.processor_float.proofs.comparison.compare.Goals as goal
use Rattle.processor_float.proofs.comparison.compare.Goals.{then-reserved-via-then-reserved, then-reserved-via-else-reserved+then-reserved-2}

pub returns-then-reserved : goal.returns-then-reserved
unfolding comparison_of
returns-then-reserved c =
    elim c.then-reserved.branch [
      | then-reserved-via-then-reserved w ↦ rw (← c.reserved.ensures, w.if-reserved.true)
      | then-reserved-via-else-reserved+then-reserved-2 w ↦
          rw (← c.reserved.ensures, w.if-reserved.false, ← w.reserved-else-reserved.ensures, w.if-reserved-2.true)
    ]

pub float_from_bits-a : goal.float_from_bits-a
float_from_bits-a c = no_nan c.args.x (sym c.reserved.ensures ∙ c.if-reserved.false)

pub float_from_bits-b : goal.float_from_bits-b
float_from_bits-b c = no_nan c.args.y (sym c.reserved-else-reserved.ensures ∙ c.if-reserved-2.false)

pub returns-then-a-b : goal.returns-then-a-b
unfolding comparison_of
returns-then-a-b c =
    rw (← c.reserved.ensures, c.if-reserved.false, ← c.reserved-else-reserved.ensures, c.if-reserved-2.false, c.if-a-b.true)

pub returns-then-a-b-2 : goal.returns-then-a-b-2
unfolding comparison_of
returns-then-a-b-2 c =
    rw (← c.reserved.ensures, c.if-reserved.false, ← c.reserved-else-reserved.ensures, c.if-reserved-2.false, c.if-a-b.false, c.if-a-b-2.true)

pub returns : goal.returns
unfolding comparison_of
returns c =
    rw (← c.reserved.ensures, c.if-reserved.false, ← c.reserved-else-reserved.ensures, c.if-reserved-2.false, c.if-a-b.false, c.if-a-b-2.false)
