-- `saved::records::drawing` meets its contract. Assumes nothing.
use native.Mathlib.Omega.{arith}
use Prim.Native.Nat.{◌+◌, ◌-◌}
use mathlib.Core.Path.{refl, ap, ◌∙◌}
use mathlib.Core.List.{List}
use Prim.Native.Nat.{ℕ}
use Rattle.saved_bytes.specs.Numbers.{halves_from}
use Rattle.saved_layout.proofs.Positions.{length-is}
use Rattle.saved_layout.proofs.Written.{drawing-part}
use Rattle.saved_kinds.specs.Kinds.{drawing_from}
use Rattle.saved.proofs.records.drawing.Goals as goal

pub slice_bounds-take_halves-end : goal.slice_bounds-take_halves-end
slice_bounds-take_halves-end c = omega (arith, length-is (c.args.form) (c.args.pak))

pub returns : goal.returns
unfolding drawing_from
returns c =
    let c4 = c in
    let c6 = c4 in
    c.take_halves.ensures ∙ ap (λ (xs : List ℕ). halves_from xs 0 13)
    (drawing-part c6.args.form c6.args.pak c4.first-at.result c6.args.file.now c4.first-at.ensures.0
    (c4.first-at.result + 172) (c4.first-at.result + 172 + 26 - (c4.first-at.result + 172)) refl (omega arith))
