-- `drawing_pixel::paint::whole` meets its contract: column after column of the eight, each at its place of the row. Assumes nothing.
use Prim.Native.Nat.{◌+◌, ◌-◌, ◌%◌}
use native.Mathlib.Omega.{arith}
use mathlib.Core.Path.{◌≡◌, ap, ◌∙◌}
use Rattle.word.specs.Bit.{is_set}
use Rattle.drawing_pixel.specs.Character.{two_bits_of, flipped_of, shade_of, pixel_value_of}
use Rattle.drawing_pixel.proofs.Places.{flipped-small, value-placed, unit-placed}
use Rattle.drawing_pixel.proofs.Spans.{span_none, span-next}
use Rattle.drawing_pixel.proofs.paint.whole.Goals as goal

pub overflow_cast-seen : goal.overflow_cast-seen
overflow_cast-seen c = omega arith

pub mirror-flips-requires : goal.mirror-flips-requires
mirror-flips-requires c = tt

pub loop-k-init : goal.loop-k-init
loop-k-init c =
    let e : c.args.from + 0 ≡ c.args.from = omega arith in (omega arith, rw e (span_none _ _ _ _))

pub overflow_add-from : goal.overflow_add-from
overflow_add-from c = omega arith

pub offset_bounds-buffer-from : goal.offset_bounds-buffer-from
offset_bounds-buffer-from c = omega arith

pub bounds-buffer-from : goal.bounds-buffer-from
bounds-buffer-from c = omega arith

pub place-requires : goal.place-requires
place-requires c = omega arith

pub painted-requires : goal.painted-requires
painted-requires c = (
  omega arith,
  unit-placed c.args.cell c.loop-k.k (omega arith)
      c.mirror-flips.ensures c.place.ensures,
)

pub overflow_add-buffer : goal.overflow_add-buffer
overflow_add-buffer c = omega arith

pub offset_bounds-buffer-from-in-loop-k : goal.offset_bounds-buffer-from-in-loop-k
offset_bounds-buffer-from-in-loop-k c = omega arith

pub bounds-buffer-from-in-loop-k : goal.bounds-buffer-from-in-loop-k
bounds-buffer-from-in-loop-k c = omega arith

pub overflow_add-k : goal.overflow_add-k
overflow_add-k c = omega arith

pub loop-k-smaller : goal.loop-k-smaller
loop-k-smaller c = omega arith

pub loop-k-preserved : goal.loop-k-preserved
loop-k-preserved c =
    let a = c.args in
    let k = c.loop-k.k in
    let inv = c.loop-k.invariant in
    let flip = is_set 13 a.cell in
    let e : a.from + k - a.from ≡ k = omega arith in
    let v : pixel_value_of a.cell a.row (a.from + k - a.from) ≡ two_bits_of (a.row % 65536) (flipped_of flip k) =
    ap (pixel_value_of a.cell a.row) e ∙ value-placed a.cell a.row k (omega arith)
    in (
      omega arith,
      rw (c.painted.ensures (flipped_of flip k) (flipped-small flip k (omega arith)) (c.place.ensures flip
          c.mirror-flips.ensures))
          (span-next _ _ _ _ _ _ _ inv.1 (omega (arith, inv.1.size)) (ap (shade_of a.palette) v)),
    )

pub returns : goal.returns
returns c =
    let e : c.loop-k.k ≡ 8 = omega arith in
    rw e at c.loop-k.invariant.1
