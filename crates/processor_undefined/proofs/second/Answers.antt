-- `processor_undefined::second`: nothing where the first halfword asks for none, else the mask two bytes on.
use Rattle.processor_undefined.specs.Reads.{second_undefined_of}
use Rattle.processor_undefined.proofs.second.Goals as goal

pub returns-then-not-two : goal.returns-then-not-two
unfolding second_undefined_of
returns-then-not-two c = λ m. rw (← c.two.ensures, c.if-not-two.true)

pub returns : goal.returns
unfolding second_undefined_of
returns c =
    λ m.
    rw (
      ← c.two.ensures,
      c.if-not-two.false,
      ← c.wrapping_add_u32.ensures.value,
    )
    (c.undefined.ensures.0 m)
