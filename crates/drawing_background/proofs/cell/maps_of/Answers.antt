-- `drawing_background::cell::maps_of` meets its contract. Assumes nothing.
use Rattle.drawing_background.proofs.cell.maps_of.Goals as goal

pub returns : goal.returns
returns c =
    record {
      overplane = rw c.wide-flags.ensures.0;
      first = rw c.wide-flags.ensures.0;
      repeats = rw (c.across-beside.ensures.0, c.wide-flags.ensures.0);
      width = rw c.wide-flags.ensures.0;
      height = rw c.wide-flags.ensures.0;
    }
