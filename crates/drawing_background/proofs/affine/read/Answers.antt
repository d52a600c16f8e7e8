-- `drawing_background::affine::read` meets its contract. Assumes nothing.
use Rattle.std.proofs.Common.{refl, arith}
use Rattle.bus.specs.Registers.{gplt_of}
use Rattle.drawing_background.proofs.Inks.{bits_of}
use Rattle.drawing_background.proofs.affine.read.Goals as goal

pub returns : goal.returns
unfolding gplt_of
returns c = (
  refl,
  (
    refl,
    (
      record {
        same = rw (
          c.wide-cell.ensures.0,
          c.half.ensures,
          c.address_in.ensures.0,
        );
        shades = c.wide-palette.ensures.0;
        begins = c.character_address-character.ensures.0;
        low = c.character_address-character.ensures.1;
      },
      record {
        mirrored = bits_of _ (omega arith);
        turned = bits_of _ (omega arith);
        shades = c.inks-inks.ensures;
      },
    ),
  ),
)
