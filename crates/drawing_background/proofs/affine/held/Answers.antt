-- `drawing_background::affine::held` meets its contract: the last cell, or a new one. Assumes nothing.
use Rattle.drawing_background.proofs.affine.held.Goals as goal

pub returns-then-is_of : goal.returns-then-is_of
returns-then-is_of c =
    let same = c.is_of.ensures c.if-is_of.true in
    (same.0, (same.1, c.requires.1.1.1))
