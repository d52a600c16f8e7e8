-- Inner: a world as the code has it, each halfword by its name, as the list of World.
use Rattle.std.specs.Prelude.{ℕ, List, [], ◌∷◌}
use Rattle.drawing_pixel.specs.declared.world.World.{World}

abbrev pub halfwords_of : World → List ℕ
halfwords_of w =
    w.flags
    ∷ w.gx
    ∷ w.gp
    ∷ w.gy
    ∷ w.mx
    ∷ w.mp
    ∷ w.my
    ∷ w.width
    ∷ w.height
    ∷ w.parameters
    ∷ w.overplane
    ∷ []
