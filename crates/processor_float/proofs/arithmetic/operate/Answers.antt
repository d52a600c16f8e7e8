-- `processor_float::arithmetic::operate`: the tests in their order.
use Rattle.std.proofs.Common.{sym, ◌∙◌, rules}
use Rattle.processor_float.specs.Arithmetic.{outcome_of}
use Rattle.processor_float.proofs.Tested.{no_nan}
use Rattle.processor_float.proofs.arithmetic.operate.Goals as goal
use Rattle.processor_float.proofs.arithmetic.operate.Goals.{then-reserved-via-then-reserved, then-reserved-via-else-reserved+then-reserved-2, else-divides-via-then-divides+else-zero, else-divides-via-else-divides}

pub returns-then-reserved : goal.returns-then-reserved
unfolding outcome_of
returns-then-reserved c =
    elim c.then-reserved.branch [
      | then-reserved-via-then-reserved w ↦ rw (← c.reserved.ensures, w.if-reserved.true)
      | then-reserved-via-else-reserved+then-reserved-2 w ↦
          rw (← c.reserved.ensures, w.if-reserved.false, ← w.reserved-else-reserved.ensures, w.if-reserved-2.true)
    ]

pub returns-then-zero-2 : goal.returns-then-zero-2
unfolding outcome_of
returns-then-zero-2 c = rw (
  ← c.reserved.ensures,
  c.if-reserved.false,
  ← c.reserved-else-reserved.ensures,
  c.if-reserved-2.false,
  ← c.divides.ensures,
  c.if-divides.true,
  ← c.zero.ensures,
  c.if-zero.true,
  ← c.zero-then-zero.ensures,
  c.if-zero-2.true,
)

pub returns-then-zero : goal.returns-then-zero
unfolding outcome_of
returns-then-zero c = rw (
  ← c.reserved.ensures,
  c.if-reserved.false,
  ← c.reserved-else-reserved.ensures,
  c.if-reserved-2.false,
  ← c.divides.ensures,
  c.if-divides.true,
  ← c.zero.ensures,
  c.if-zero.true,
  ← c.zero-then-zero.ensures,
  c.if-zero-2.false,
)

pub float_from_bits-a : goal.float_from_bits-a
float_from_bits-a c = no_nan c.args.x (sym c.reserved.ensures ∙ c.if-reserved.false)

pub float_from_bits-b : goal.float_from_bits-b
float_from_bits-b c = no_nan c.args.y (sym c.reserved-else-reserved.ensures ∙ c.if-reserved-2.false)

pub returns : goal.returns
unfolding outcome_of
returns c =
    rw (
      c.settle.ensures,
      c.compute.ensures,
      c.vanishes-exact.ensures,
      ← c.reserved.ensures,
      c.if-reserved.false,
      ← c.reserved-else-reserved.ensures,
      c.if-reserved-2.false,
    )
    (elim c.else-divides.branch [
      | else-divides-via-then-divides+else-zero w ↦ rw (← c.divides.ensures, w.if-divides.true, ← w.zero.ensures, w.if-zero.false)
      | else-divides-via-else-divides w ↦ rw (← c.divides.ensures, w.if-divides.false)
    ])
