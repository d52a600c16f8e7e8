-- `capi_drawing::pictures::character` meets its contract: the verdict as a number, the address where accepted, and the part's length.
-- Assumes nothing.
use mathlib.Core.Path.{ap}
use lib.ListN.{length}
use Rattle.drawing.specs.Calls.{character_of}
use Rattle.drawing.proofs.Verdicts.{character-small}
use Rattle.capi_drawing.proofs.pictures.character.Goals as goal

pub character_address-requires : goal.character_address-requires
character_address-requires c = character-small c.args.vram.now c.args.character c.in-Ok.ensures.accepted.0

pub returns-in-Ok : goal.returns-in-Ok
returns-in-Ok c = record {
  refusal = rw c.in-Ok.ensures.accepted.0;
  offset = rw c.in-Ok.ensures.accepted.0 c.character_address.ensures.0;
  length = ap length c.in-Ok.ensures.accepted.1;
}

pub returns-in-Err : goal.returns-in-Err
unfolding character_of
returns-in-Err c = record {
  refusal = rw c.in-Err.ensures.refused c.from.ensures;
  offset = rw c.in-Err.ensures.refused;
  length = rw c.in-Err.ensures.refused;
}
