-- `drawing_background::affine::cell_shaded` meets its contract: the pixel is picked from the cell's row at the turned position, and
-- takes its shade from the inks. Assumes nothing.
use Rattle.std.proofs.Common.{◌≡◌, ◌+◌, ◌*◌, ◌%◌, ◌∙◌, arith, rules}
use lib.Bits.{and_le_l}
use Rattle.word.specs.LittleEndian.{half_at}
use Rattle.word.specs.Bit.{is_set}
use Rattle.drawing_pixel.specs.Character.{flipped_of, pixel_value_of}
use Rattle.drawing_background.proofs.Inks.{bits_small, value-turned, inked-of, inked-fits}
use Rattle.drawing_background.proofs.affine.cell_shaded.Goals as goal

pub turned-requires : goal.turned-requires
turned-requires c =
    (omega arith, rw c.requires.1.1.1.1.turned (bits_small (is_set 12 c.args.c.cell)))

pub turned-requires-2 : goal.turned-requires-2
turned-requires-2 c = (
  omega arith,
  rw c.requires.1.1.1.1.mirrored (bits_small (is_set 13
      c.args.c.cell)),
)

pub overflow_sub-result : goal.overflow_sub-result
overflow_sub-result c = and_le_l _ _

pub returns : goal.returns
returns c =
    let a = c.args in
    let pre = c.requires in
    let value : c.pair-v.result ≡ pixel_value_of a.c.cell (half_at a.vram.now
    (a.c.character + 2 * flipped_of (is_set 12 a.c.cell) (a.sy % 8))) (a.sx % 8) =
    c.pair-v.ensures.0
    ∙ rw (
      c.turned-2.ensures.1 (is_set 13 a.c.cell)
          pre.1.1.1.1.mirrored,
      c.wide-row.ensures.0,
      c.half.ensures,
      c.turned.ensures.1
          (is_set 12 a.c.cell) pre.1.1.1.1.turned,
    )
    (value-turned a.c.cell _ (a.sx % 8))
    in
    rw (← value)
    (inked-of a.h a.r a.c.palette c.pair-v.result a.mask a.c.inks _ _ pre.1.0
    c.pair-v.ensures.1 pre.1.1.0 pre.1.1.1.1.shades c.ink.ensures
    c.ink-2.ensures)

pub overflow_add-result : goal.overflow_add-result
overflow_add-result c =
    let a = c.args in
    let pre = c.requires in
    omega (
      arith,
      inked-fits a.h a.r a.c.palette c.pair-v.result a.mask a.c.inks _ _
          pre.1.0 c.pair-v.ensures.1 pre.1.1.0 pre.1.1.1.1.shades
          c.ink.ensures c.ink-2.ensures (search rules),
    )
