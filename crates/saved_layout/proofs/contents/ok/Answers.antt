-- `saved_layout::contents::ok` meets its contract. Assumes nothing.
use native.Mathlib.Omega.{arith}
use mathlib.Core.Path.{◌∙◌}
use lib.ListN.{length-take}
use Rattle.saved_layout.proofs.Positions.{length-is}
use Rattle.saved_layout.proofs.Written.{contents-fit, contents-same}
use Rattle.saved_layout.proofs.contents.ok.Goals as goal

pub slice_bounds-same_halves-end : goal.slice_bounds-same_halves-end
slice_bounds-same_halves-end c = simp length-take (omega arith)

pub same_halves-requires : goal.same_halves-requires
same_halves-requires c =
    let c3 = c in
    let a = c3.args in
    omega (
      arith,
      length-is a.form a.pak,
      contents-fit a.form a.pak a.file.now _ (c.lay-count.ensures.table_after ∙ c3.stored_sums-sums.ensures),
    )

pub returns : goal.returns
returns c =
    let c4 = c in
    let a = c4.args in
    c.same_halves.ensures
    ∙ contents-same a.form a.pak a.file.now _ (c.lay-count.ensures.table_after ∙ c4.stored_sums-sums.ensures)
