-- `saved_layout::bodies::put_records` meets its contract. Assumes nothing.
use native.Mathlib.Omega.{arith}
use Rattle.saved_layout.proofs.Written.{records-put}
use Rattle.saved_layout.proofs.bodies.put_records.Goals as goal

pub returns : goal.returns
returns c = let a = c.args in
    records-put a.output.now a.regs.now a.rest.now a.halves.now _ _ _ a.at (omega arith) (omega arith)
    (omega arith) (omega arith) (c.put_words.ensures)
    (c.put_words-2.ensures)
    (c.put_halves.ensures)
