-- `processor_undefined::read`: each mask by its own function.
use Rattle.processor_undefined.proofs.read.Goals as goal

pub returns : goal.returns
returns c =
    let a = c.args in
    λ sys psw mode m.
    rw (c.undefined.ensures.0 m, c.second.ensures m, c.load.ensures sys a.pc psw mode m)
