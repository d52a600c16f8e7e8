-- `bus_defined::undefined` meets its contract, by the width. Assumes nothing.
use native.Mathlib.Omega.{arith}
use Rattle.bus_defined.proofs.Masks.{byte-undefined, word-undefined}
use Rattle.bus_defined.proofs.undefined.Goals as goal

pub returns-in-Byte : goal.returns-in-Byte
returns-in-Byte c =
    rw c.in-Byte.is (λ m. rw (c.half.ensures.0 m) (byte-undefined m c.args.address), omega arith)

pub returns-in-Word : goal.returns-in-Word
returns-in-Word c =
    rw c.in-Word.is
    (λ m. rw (c.half-in-Word.ensures.0 m, c.half-in-Word-2.ensures.0 m) (word-undefined m c.args.address), omega arith)
