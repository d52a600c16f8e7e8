-- `saved_move::to_two` meets its contract. Assumes nothing.
use native.Mathlib.Omega.{arith}
use Prim.Native.Nat.{◌+◌, ◌-◌}
use lib.ListN.{length-take, length-drop}
use Rattle.saved_layout.specs.declared.Form.TheVariants.{One, Two}
use Rattle.saved_layout.proofs.Positions.{length-is}
use Rattle.saved_move.proofs.Moving.{moved-two}
use Rattle.saved_move.proofs.to_two.Goals as goal

pub slice_bounds-put_bytes-end : goal.slice_bounds-put_bytes-end
slice_bounds-put_bytes-end c = omega (arith, length-is One (c.args.pak))

pub put_bytes-requires : goal.put_bytes-requires
put_bytes-requires c =
    let c6 = c in
    simp (length-take, length-drop) (omega (arith, length-is One c6.args.pak, length-is Two c6.args.pak))

pub put_zeros-requires : goal.put_zeros-requires
put_zeros-requires c = omega (arith, length-is Two (c.args.pak))

pub returns : goal.returns
returns c =
    let c10 = c in
    let c13 = c10 in
    let c14 = c13 in
    let c17 = c14 in
    let from = c14.first-from.result in
    let at = c13.first-at.result in
    moved-two c17.args.pak c17.args.file.now c17.args.output.now c17.requires.file_len.0 c17.requires.output_len from at
    (from + 327878 + c17.args.pak - from) _ _ _ c14.first-from.ensures.0 c13.first-at.ensures.0 (omega arith)
    c10.put_bytes.ensures c.put_zeros.ensures
    c.put.ensures
