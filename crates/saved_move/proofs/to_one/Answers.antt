-- `saved_move::to_one` meets its contract. Assumes nothing.
use native.Mathlib.Omega.{arith}
use Prim.Native.Nat.{◌+◌, ◌-◌}
use lib.ListN.{length-take, length-drop}
use Rattle.saved_layout.specs.declared.Form.TheVariants.{One, Two}
use Rattle.saved_layout.proofs.Positions.{length-is}
use Rattle.saved_move.proofs.Moving.{moved-one}
use Rattle.saved_move.proofs.to_one.Goals as goal

pub slice_bounds-put_bytes-end : goal.slice_bounds-put_bytes-end
slice_bounds-put_bytes-end c = omega (arith, length-is Two (c.args.pak))

pub put_bytes-requires : goal.put_bytes-requires
put_bytes-requires c =
    let c6 = c in
    simp (length-take, length-drop) (omega (arith, length-is Two c6.args.pak, length-is One c6.args.pak))

pub returns : goal.returns
returns c =
    let c9 = c in
    let c10 = c9 in
    let c13 = c10 in
    let from = c10.first-from.result in
    let at = c9.first-at.result in
    moved-one c13.args.pak c13.args.file.now c13.args.output.now c13.requires.file_len.0 c13.requires.output_len from at
    (from + 327878 + c13.args.pak - from) _ _ c10.first-from.ensures.0 c9.first-at.ensures.0 (omega arith)
    c.put_bytes.ensures c.put.ensures
