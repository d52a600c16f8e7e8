-- `saved_layout::contents::put-word` meets its contract. Assumes nothing.
use native.Mathlib.Omega.{arith}
use lib.ListN.{length-set}
use Rattle.saved_layout.proofs.Laid.{word-laid}
use Rattle.saved_layout.proofs.contents.put_word.Goals as goal

pub returns : goal.returns
returns c = record { table_after = word-laid c.args.table.now c.args.at c.args.word (omega arith); table_len = simp length-set (omega arith) }
