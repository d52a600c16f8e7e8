-- `drawing_background::paint::part_rows` meets its contract: row after row of one cell. Assumes nothing.
use Rattle.std.proofs.Common.{◌≡◌, ◌+◌, ◌-◌, ap, ◌∙◌, arith}
use Rattle.word.specs.LittleEndian.{half_at}
use Rattle.drawing_pixel.specs.Character.{row_address_of, pixel_value_of, shade_of}
use Rattle.drawing_pixel.proofs.Spans.{span-change}
use Rattle.drawing_pixel.proofs.Blocks.{block-no-row, block_row}
use Rattle.drawing_pixel.proofs.Small.{shade-small}
use Rattle.drawing_background.proofs.paint.part_rows.Goals as goal

pub loop-r-init : goal.loop-r-init
loop-r-init c = (omega arith, (omega arith, block-no-row _ _ _ _ _))

pub overflow_sub-r : goal.overflow_sub-r
overflow_sub-r c = omega arith

pub overflow_add-y : goal.overflow_add-y
overflow_add-y c = omega arith

pub row_address-requires : goal.row_address-requires
row_address-requires c = omega arith

pub half-requires : goal.half-requires
half-requires c = omega arith

pub wide-row-requires : goal.wide-row-requires
wide-row-requires c = tt

pub span-requires : goal.span-requires
span-requires c = omega (arith, c.loop-r.invariant.1.1.size)

pub overflow_add-r : goal.overflow_add-r
overflow_add-r c = omega arith

pub loop-r-smaller : goal.loop-r-smaller
loop-r-smaller c = omega arith

pub loop-r-preserved : goal.loop-r-preserved
loop-r-preserved c =
    let a = c.args in
    let q = c.loop-r.r in
    let inv = c.loop-r.invariant in
    let e : c.wide-row.result ≡ half_at a.vram.now (row_address_of a.cell (a.y + (q - a.area.top))) =
    c.wide-row.ensures.0 ∙ (c.half.ensures ∙ ap (half_at a.vram.now)
    c.row_address.ensures.0)
    in (
      omega arith,
      (
        omega arith,
        block_row _ _ _ _ _ _ _ _ inv.0 (omega arith) (λ x v h. shade-small _ _ v h) inv.1.1
            (span-change _ _ _ _ _ _ _ (λ x v l h. ap (λ n. shade_of a.palette (pixel_value_of a.cell n (a.column +
            (x - a.area.from))) v) e) c.span.ensures),
      ),
    )

pub returns : goal.returns
returns c =
    let e : c.loop-r.r ≡ c.args.area.bottom = omega arith in
    rw e at c.loop-r.invariant.1.1
