-- `saved::records::hardware` meets its contract. Assumes nothing.
use native.Mathlib.Omega.{arith}
use Prim.Native.Nat.{◌+◌, ◌-◌}
use mathlib.Core.Path.{◌≡◌, refl, ap, ◌∙◌}
use lib.ListN.{length}
use Rattle.saved_layout.specs.Layout.{file_length_of}
use Rattle.saved_layout.specs.File.{bodies_in}
use Rattle.saved_kinds.specs.Kinds.{hardware_from}
use Rattle.saved_layout.specs.declared.Form.TheVariants.{Two}
use Rattle.saved_layout.proofs.Positions.{length-is}
use Rattle.saved_layout.proofs.Written.{hardware-part}
use Rattle.saved.proofs.records.hardware.Goals as goal

pub slice_bounds-hardware-end : goal.slice_bounds-hardware-end
slice_bounds-hardware-end c = let w : length (c.args.file.now) ≡ file_length_of Two
    (c.args.pak) = rw (c.in-Two.is) at
    (c.requires.0) in
    omega (arith, w, length-is Two (c.args.pak))

pub returns-in-One : goal.returns-in-One
unfolding bodies_in hardware_from
returns-in-One c = rw (c.in-One.is) c.reset.ensures

pub returns-in-Two : goal.returns-in-Two
returns-in-Two c =
    let c2 = c in
    let c6 = c2 in
    let pak = c6.args.pak in
    rw c2.in-Two.is (c.hardware.ensures ∙ ap hardware_from
    (hardware-part pak c2.first.result c6.args.file.now c2.first.ensures.0
    (c2.first.result + 327878 + pak) (c2.first.result + 327878 + pak + 8 - (c2.first.result + 327878 + pak))
    refl (omega arith)))
