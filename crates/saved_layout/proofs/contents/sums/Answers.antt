-- `saved_layout::contents::sums` meets its contract. Assumes nothing.
use native.Mathlib.Omega.{arith}
use Prim.Native.Nat.{◌+◌, ◌-◌}
use mathlib.Core.Path.{refl, ◌∙◌}
use Rattle.saved_layout.specs.declared.Form.TheVariants.{Two}
use Rattle.saved_layout.proofs.Positions.{length-is}
use Rattle.saved_layout.proofs.Written.{processor-part, drawing-part, wram-part, vram-part, pak-part, hardware-part, sums-are, list_same}
use Rattle.saved_layout.proofs.contents.sums.Goals as goal

pub slice_bounds-sum-end : goal.slice_bounds-sum-end
slice_bounds-sum-end c = omega (arith, length-is Two (c.args.pak))

pub slice_bounds-sum-end-2 : goal.slice_bounds-sum-end-2
slice_bounds-sum-end-2 c = omega (arith, length-is Two (c.args.pak))

pub slice_bounds-sum-end-3 : goal.slice_bounds-sum-end-3
slice_bounds-sum-end-3 c = omega (arith, length-is Two (c.args.pak))

pub slice_bounds-sum-end-4 : goal.slice_bounds-sum-end-4
slice_bounds-sum-end-4 c = omega (arith, length-is Two (c.args.pak))

pub slice_bounds-sum-end-5 : goal.slice_bounds-sum-end-5
slice_bounds-sum-end-5 c = omega (arith, length-is Two (c.args.pak))

pub slice_bounds-sum-end-6 : goal.slice_bounds-sum-end-6
slice_bounds-sum-end-6 c = omega (arith, length-is Two (c.args.pak))

pub returns : goal.returns
returns c =
    let c8 = c in
    let c10 = c8 in
    let c12 = c10 in
    let c14 = c12 in
    let pak = c14.args.pak in
    let at = c12.first-processor.result in
    let file = c14.args.file.now in
    let first = c12.first-processor.ensures.0 in
    list_same c10.sum.ensures c8.sum-2.ensures c.sum-3.ensures
    c.sum-4.ensures c.sum-5.ensures c.sum-6.ensures ∙ sums-are
    (processor-part Two pak at file first at (at + 172 - at) refl (omega arith))
    (drawing-part Two pak at file first (at + 172) (at + 198 - (at + 172)) refl (omega arith))
    (wram-part Two pak at file first (at + 198) (at + 65734 - (at + 198)) refl (omega arith))
    (vram-part Two pak at file first (at + 65734) (at + 327878 - (at + 65734)) refl (omega arith))
    (pak-part Two pak at file first (at + 327878) (at + 327878 + pak - (at + 327878)) refl (omega arith))
    (hardware-part pak at file first (at + 327878 + pak) (at + 327878 + pak + 8 - (at + 327878 + pak)) refl
    (omega arith))
