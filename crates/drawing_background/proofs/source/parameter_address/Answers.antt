-- `drawing_background::source::parameter_address` meets its contract: the index wraps at 16 bits. Assumes nothing.
use Rattle.std.proofs.Common.{arith}
use Rattle.drawing_pixel.specs.Background.{parameter_address_of}
use Rattle.drawing_background.proofs.source.parameter_address.Goals as goal

pub returns : goal.returns
unfolding parameter_address_of
returns c = (omega (arith, c.wide.ensures.0, c.wrapping_add_u16-index.ensures), omega (arith, c.wide.ensures.1))
