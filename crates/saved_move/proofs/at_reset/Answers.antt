-- `saved_move::at_reset` meets its contract. Assumes nothing.
use native.Mathlib.Omega.{arith}
use Prim.Native.Nat.{◌+◌, ◌-◌}
use mathlib.Core.List.{List}
use Prim.Native.Nat.{ℕ}
use mathlib.Core.Path.{refl, ap, ◌∙◌}
use Rattle.saved_bytes.specs.Numbers.{same_of}
use Rattle.saved_layout.specs.File.{hardware_reset}
use Rattle.saved_layout.specs.declared.Form.TheVariants.{Two}
use Rattle.saved_layout.proofs.Positions.{length-is}
use Rattle.saved_layout.proofs.Written.{hardware-part}
use Rattle.saved_move.proofs.at_reset.Goals as goal

pub slice_bounds-same-end : goal.slice_bounds-same-end
slice_bounds-same-end c = omega (arith, length-is Two (c.args.pak))

pub returns : goal.returns
returns c = let at = c.first.result in
    c.same.ensures ∙ ap (λ (xs : List ℕ). same_of xs hardware_reset) (hardware-part
    (c.args.pak) at
    (c.args.file.now) (c.first.ensures.0)
    (at + 327878 + (c.args.pak)) (at + 327878 +
    (c.args.pak) + 8 - (at + 327878 +
    (c.args.pak))) refl (omega arith))
