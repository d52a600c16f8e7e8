-- `saved_layout::contents::put` meets its contract. Assumes nothing.
use native.Mathlib.Omega.{arith}
use mathlib.Core.Path.{◌∙◌}
use lib.ListN.{length-take}
use Rattle.saved_layout.proofs.Positions.{length-is}
use Rattle.saved_layout.proofs.Written.{contents-fit, contents-put}
use Rattle.saved_layout.proofs.contents.put.Goals as goal

pub slice_bounds-put_halves-end : goal.slice_bounds-put_halves-end
slice_bounds-put_halves-end c = simp length-take (omega arith)

pub put_halves-requires : goal.put_halves-requires
put_halves-requires c =
    let c4 = c in
    let a = c4.args in
    omega (
      arith,
      length-is a.form a.pak,
      contents-fit a.form a.pak a.output.now _ (c.lay-count.ensures.table_after ∙ c4.stored_sums-sums.ensures),
    )

pub returns : goal.returns
returns c =
    let c2 = c in
    let c5 = c2 in
    let c7 = c5 in
    let a = c7.args in
    c2.put_halves.ensures
    ∙ contents-put a.form a.pak a.output.now _ (c5.lay-count.ensures.table_after ∙ c7.stored_sums-sums.ensures) _
