-- `saved_layout::contents::put_leading` meets its contract. Assumes nothing.
use native.Mathlib.Omega.{arith}
use lib.ListN.{length-set}
use Rattle.saved_layout.proofs.Laid.{half-laid, leading_two}
use Rattle.saved_layout.proofs.contents.put_leading.Goals as goal

pub returns-in-One : goal.returns-in-One
returns-in-One c =
    record {
      table_after = rw c.in-One.is (half-laid c.args.table.now 0 _ (omega arith));
      upper_bound = (omega arith, simp length-set (omega arith));
    }

pub returns-in-Two : goal.returns-in-Two
returns-in-Two c =
    record {
      table_after = rw c.in-Two.is (leading_two c.args.table.now _ (omega arith));
      upper_bound = (omega arith, simp length-set (omega arith));
    }
