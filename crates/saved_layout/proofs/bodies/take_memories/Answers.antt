-- `saved_layout::bodies::take_memories` meets its contract. Assumes nothing.
use native.Mathlib.Omega.{arith}
use Prim.Native.Nat.{◌+◌, ◌-◌}
use mathlib.Core.Path.{refl, ◌∙◌}
use lib.ListN.{length}
use Rattle.saved_layout.proofs.Positions.{length-is}
use Rattle.saved_layout.proofs.Written.{wram-part, vram-part, pak-part}
use Rattle.saved_layout.proofs.bodies.take_memories.Goals as goal

pub slice_bounds-copy_from_slice-end : goal.slice_bounds-copy_from_slice-end
slice_bounds-copy_from_slice-end c =
    let c5 = c in
    omega (arith, length-is c5.args.form (length c5.args.pak.now))

pub slice_bounds-copy_from_slice-end-2 : goal.slice_bounds-copy_from_slice-end-2
slice_bounds-copy_from_slice-end-2 c =
    let c10 = c in
    omega (arith, length-is c10.args.form (length c10.args.pak.now))

pub slice_bounds-copy_from_slice-end-3 : goal.slice_bounds-copy_from_slice-end-3
slice_bounds-copy_from_slice-end-3 c =
    let c15 = c in
    omega (arith, length-is c15.args.form (length c15.args.pak.now))

pub returns : goal.returns
returns c =
    let c12 = c in
    let c15 = c12 in
    let c20 = c15 in
    let a = c20.args in
    let p = length a.pak.now in
    let at = c15.first-at.result in
    let first = c15.first-at.ensures.0 in
    let whole = c20.requires.file_len.0 ∙ length-is a.form p in
    let file = a.file.now in record {
      wram_after = c.copy_from_slice.ensures.after ∙ wram-part a.form p at file first (at + 198)
          (at + 65734 - (at + 198)) refl (omega arith);
      vram_after = c.copy_from_slice-2.ensures.after ∙ vram-part a.form p at file first
          (at + 65734) (at + 327878 - (at + 65734)) refl (omega arith);
      pak_after = c.copy_from_slice-3.ensures.after ∙ pak-part a.form p at file first (at + 327878)
          (at + 327878 + p - (at + 327878)) refl (omega arith);
    }
