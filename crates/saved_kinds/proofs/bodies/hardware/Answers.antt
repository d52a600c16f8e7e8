-- `saved_kinds::bodies::hardware` meets its contract. Assumes nothing.
use Rattle.saved_kinds.specs.Kinds.{hardware_from}
use Rattle.saved_kinds.proofs.bodies.hardware.Goals as goal

pub returns : goal.returns
unfolding hardware_from
returns c =
    let b = c in
    rw (
      b.half_at.ensures.0,
      b.half_at-2.ensures.0,
      b.half_at-3.ensures.0,
      b.half_at-4.ensures.0,
    )
