-- `drawing_bytes::list` meets its contract: the worlds' bytes, then the objects'. Assumes nothing.
use Rattle.drawing_laws.specs.inner.SourceBytes.{pixel_bytes_biased}
use Rattle.drawing_bytes.proofs.Listings.{listing-more}
use Rattle.drawing_bytes.proofs.list.Goals as goal

pub returns : goal.returns
unfolding pixel_bytes_biased
returns c = listing-more _ _ _ _ _ _ _ _ c.list_worlds-n.ensures.lists c.list_objects.ensures
