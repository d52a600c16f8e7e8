-- `word::put-word` meets its contract: two halfwords are put, the low one first.
-- Assumes nothing.
use Rattle.word.proofs.put_word.Goals as goal

pub returns : goal.returns
returns c = rw (c.put_half-2.ensures, c.put_half.ensures)
