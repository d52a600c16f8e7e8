-- Demand 3: `answerable`. Two calls over memories with the same tables and the same listed bytes draw the same pixel.
-- Assumes nothing.
use mathlib.Core.Path.{sym, ◌∙◌}
use Rattle.drawing_laws.specs.Demand3.{Answerable}
use Rattle.drawing_laws.proofs.PixelBytes.{listed-formula}
use Rattle.drawing_laws.proofs.Registers.{spt-below}
use Rattle.drawing_laws.proofs.PixelSame.{pixel-same}
use Rattle.drawing_laws.proofs.Verdicts.{accepted-given}
use Rattle.drawing_laws.proofs.CallDrawn.{pixel-drawn}

pub answerable : Answerable
answerable first second regs frame one other eye x y a b e c d g tables listed =
    let ok = (accepted-given first regs frame one a).registers in
    pixel-drawn second regs frame other eye x y b e c g
    ∙ pixel-same first second tables regs (spt-below regs ok) eye x y (rw (listed-formula first regs eye x y ok) listed)
    ∙ sym (pixel-drawn first regs frame one eye x y a e c d)
