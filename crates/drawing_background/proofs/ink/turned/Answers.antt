-- `drawing_background::ink::turned` meets its contract: a position of three bits, all of them turned or none. Assumes nothing.
use Rattle.std.proofs.Common.{ap, ◌∙◌, arith}
use lib.Bits.{bit_xor, xor_lt}
use Rattle.drawing_background.proofs.Inks.{turned-of}
use Rattle.drawing_background.proofs.ink.turned.Goals as goal

pub returns : goal.returns
returns c =
    let a = c.args in (
      xor_lt 3 a.k a.bits c.requires.0 (omega arith),
      λ flip e. ap (bit_xor a.k) e ∙ turned-of flip a.k c.requires.0,
    )
