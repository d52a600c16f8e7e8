-- `saved_salvage::compare::contents_differ` meets its contract. Assumes nothing.
use native.Mathlib.Omega.{arith}
use Rattle.saved_layout.specs.declared.Form.TheVariants.{Two}
use Rattle.saved_layout.proofs.Positions.{length-is, first_small}
use Rattle.saved_salvage.proofs.Differing.{differ-empty, differ-some}
use Rattle.saved_salvage.proofs.compare.contents_differ.Goals as goal

pub part_differs-start-requires : goal.part_differs-start-requires
part_differs-start-requires c =
    let pak = c.args.pak in
    (omega (arith, length-is Two pak, first_small Two pak), omega (arith, length-is Two pak, first_small Two pak))

pub entry_differs-one-requires : goal.entry_differs-one-requires
entry_differs-one-requires c =
    let pak = c.args.pak in
    (omega (arith, length-is Two pak, first_small Two pak), omega (arith, length-is Two pak, first_small Two pak))

pub entry_differs-two-requires : goal.entry_differs-two-requires
entry_differs-two-requires c =
    let pak = c.args.pak in
    (omega (arith, length-is Two pak, first_small Two pak), omega (arith, length-is Two pak, first_small Two pak))

pub entry_differs-three-requires : goal.entry_differs-three-requires
entry_differs-three-requires c =
    let pak = c.args.pak in
    (omega (arith, length-is Two pak, first_small Two pak), omega (arith, length-is Two pak, first_small Two pak))

pub entry_differs-four-requires : goal.entry_differs-four-requires
entry_differs-four-requires c =
    let pak = c.args.pak in
    (omega (arith, length-is Two pak, first_small Two pak), omega (arith, length-is Two pak, first_small Two pak))

pub entry_differs-requires : goal.entry_differs-requires
entry_differs-requires c =
    let pak = c.args.pak in
    (omega (arith, length-is Two pak, first_small Two pak), omega (arith, length-is Two pak, first_small Two pak))

pub returns-then-pak-eq0 : goal.returns-then-pak-eq0
returns-then-pak-eq0 c =
    let c3 = c in
    let c6 = c3 in
    let a = c6.args in
    differ-empty a.pak a.kept a.file.now a.output.now c6.part_differs-start.ensures
    c3.entry_differs-one.ensures c3.entry_differs-two.ensures c3.entry_differs-three.ensures
    c.entry_differs-four.ensures c.if-pak-eq0.true c.entry_differs.ensures

pub entry_differs-five-requires : goal.entry_differs-five-requires
entry_differs-five-requires c =
    let pak = c.args.pak in
    (omega (arith, length-is Two pak, first_small Two pak), omega (arith, length-is Two pak, first_small Two pak))

pub entry_differs-requires-2 : goal.entry_differs-requires-2
entry_differs-requires-2 c =
    let pak = c.args.pak in
    (omega (arith, length-is Two pak, first_small Two pak), omega (arith, length-is Two pak, first_small Two pak))

pub returns : goal.returns
returns c =
    let c3 = c in
    let c6 = c3 in
    let a = c6.args in
    differ-some a.pak a.kept a.file.now a.output.now c6.part_differs-start.ensures c6.entry_differs-one.ensures
    c3.entry_differs-two.ensures c3.entry_differs-three.ensures c3.entry_differs-four.ensures
    (omega (arith, c.if-pak-eq0.false)) c.entry_differs-five.ensures c.entry_differs-2.ensures
