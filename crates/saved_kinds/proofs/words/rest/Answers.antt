-- `saved_kinds::words::rest` meets its contract: word by word. Assumes nothing.
use Rattle.saved_kinds.specs.Words.{rest_of}
use Rattle.saved_kinds.proofs.words.rest.Goals as goal

pub returns : goal.returns
unfolding rest_of
returns c = rw (c.mode_number-last.ensures)
