-- `drawing_bytes::output::put_half` meets its contract: one address after the other. Assumes nothing.
use Rattle.drawing_bytes.proofs.Listings.{listing-more}
use Rattle.drawing_bytes.proofs.output.put_half.Goals as goal

pub returns : goal.returns
returns c = listing-more _ _ _ _ _ _ _ _ c.put-next.ensures c.put.ensures
