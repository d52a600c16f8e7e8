-- `saved_layout::contents::lay` meets its contract. Assumes nothing.
use native.Mathlib.Omega.{arith}
use Rattle.saved_layout.proofs.Laid.{contents-laid}
use Rattle.saved_layout.proofs.contents.lay.Goals as goal

pub overflow_add-first-5 : goal.overflow_add-first-5
overflow_add-first-5 c =
    let c14 = c in
    omega (arith, c14.first-first.ensures.1)

pub overflow_add-first-6 : goal.overflow_add-first-6
overflow_add-first-6 c =
    let c14 = c in
    omega (arith, c14.first-first.ensures.1, c14.requires.1)

pub put_entry-requires : goal.put_entry-requires
put_entry-requires c =
    let c3 = c in
    let c7 = c3 in
    let c11 = c7 in
    let c14 = c11 in record {
      table_len = (
        c.put_entry-six.ensures.upper_bound.1,
        omega (
          arith,
          c.put_entry-six.ensures.upper_bound.0,
          c3.put_entry-five.ensures.upper_bound.0,
          c3.put_entry-four.ensures.upper_bound.0,
          c7.put_entry-three.ensures.upper_bound.0,
          c7.put_entry-two.ensures.upper_bound.0,
          c11.put_leading-one.ensures.upper_bound.0,
        ),
      );
      offset_bound = (omega (arith, c14.first-first.ensures.1, c14.requires.1), omega (arith, c11.last_bytes-last.ensures.1));
    }

pub returns : goal.returns
returns c =
    let c4 = c in
    let c8 = c4 in
    let c12 = c8 in
    let c15 = c12 in
    let c17 = c15 in record {
      table_after = contents-laid c17.args.form c17.args.pak c17.args.sums c15.count-count.ensures.0 c15.first-first.ensures.0
          c12.last_bytes-last.ensures.0 c12.put_leading-one.ensures.table_after c8.put_entry-two.ensures.table_after
          c8.put_entry-three.ensures.table_after c4.put_entry-four.ensures.table_after c4.put_entry-five.ensures.table_after
          c.put_entry-six.ensures.table_after c.put_entry.ensures.table_after;
      upper_bound = (
        omega (
          arith,
          c.put_entry.ensures.upper_bound.0,
          c.put_entry-six.ensures.upper_bound.0,
          c4.put_entry-five.ensures.upper_bound.0,
          c4.put_entry-four.ensures.upper_bound.0,
          c8.put_entry-three.ensures.upper_bound.0,
          c8.put_entry-two.ensures.upper_bound.0,
          c12.put_leading-one.ensures.upper_bound.0,
        ),
        c.put_entry.ensures.upper_bound.1,
      );
    }
