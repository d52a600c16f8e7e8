-- `saved::records::processor` meets its contract. Assumes nothing.
use Rattle.saved_kinds.specs.Kinds.{general_from, rest_from}
use Rattle.saved.proofs.records.processor.Goals as goal

pub returns : goal.returns
unfolding general_from rest_from
returns c = rw (c.processor_of.ensures, c.take_words.ensures, c.take_words-2.ensures)
