-- `saved_layout::contents::put_entry` meets its contract. Assumes nothing.
use native.Mathlib.Omega.{arith}
use mathlib.Core.List.{append-nil}
use mathlib.Core.Path.{sym}
use Rattle.saved_layout.proofs.Laid.{half-laid, entry-one, entry-two}
use Rattle.saved_layout.proofs.contents.put_entry.Goals as goal

pub returns-then-size-eq0 : goal.returns-then-size-eq0
returns-then-size-eq0 c = record { table_after = rw c.if-size-eq0.true (sym (append-nil _)); upper_bound = (omega arith, c.requires.table_len.0) }

pub returns-in-One : goal.returns-in-One
returns-in-One c =
    let c2 = c in
    let c4 = c2 in
    let a = c4.args in
    record {
      table_after = entry-one a.form a.table.now _ _ _ a.at a.kind a.offset a.size a.sum (omega arith)
          (half-laid a.table.now a.at a.kind (omega arith)) c4.put_word.ensures.table_after c2.put_word-2.ensures.table_after c.in-One.is;
      upper_bound = (omega arith, c2.put_word-2.ensures.table_len);
    }

pub returns-in-Two : goal.returns-in-Two
returns-in-Two c =
    let c4 = c in
    let c6 = c4 in
    let a = c6.args in
    record {
      table_after = entry-two a.form a.table.now _ _ _ a.at a.kind a.offset a.size a.sum (omega arith)
          (half-laid a.table.now a.at a.kind (omega arith)) c6.put_word.ensures.table_after c4.put_word-2.ensures.table_after _
          c.in-Two.is c.put_word-in-Two.ensures.table_after;
      upper_bound = (omega arith, c.put_word-in-Two.ensures.table_len);
    }
