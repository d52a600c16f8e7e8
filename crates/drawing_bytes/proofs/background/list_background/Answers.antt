-- `drawing_bytes::background::list_background` meets its contract: parameters, then cell and row, where it covers. Assumes nothing.
use native.Mathlib.Omega.{arith}
use Prim.Native.Nat.{◌+◌, ◌-◌, ◌%◌}
use mathlib.Core.Path.{sym, ◌∙◌}
use Rattle.drawing_bytes.proofs.Listings.{listing_none, listing-more, listing-as}
use Rattle.drawing_bytes.proofs.Covering.{world-left, world-top}
use Rattle.drawing_bytes.proofs.Sources.{background-none, background-there, cell-length}
use Rattle.drawing_pixel.specs.inner.Halfwords.{halfwords_of}
use Rattle.drawing_bytes.proofs.background.list_background.Goals as goal

pub returns-then-not-covers : goal.returns-then-not-covers
returns-then-not-covers c = record {
  lists = listing-as _ _ _ _ _ _ (background-none c.args.vram.now
      (halfwords_of c.args.w) c.args.eye
      c.args.x c.args.y (sym
      c.covers.ensures ∙ c.if-not-covers.true)) (listing_none _ _);
  upper_bound = omega arith;
}

pub overflow_sub-i : goal.overflow_sub-i
overflow_sub-i c = omega (
  arith,
  world-left (halfwords_of c.args.w)
      c.args.eye c.args.x
      c.args.y (sym c.covers.ensures ∙ c.if-not-covers.false),
  c.window_left.ensures.0,
)

pub overflow_sub-j : goal.overflow_sub-j
overflow_sub-j c = omega (
  arith,
  world-top (halfwords_of c.args.w)
      c.args.eye
      c.args.x
      c.args.y (sym
      c.covers.ensures ∙ c.if-not-covers.false),
  c.wide.ensures.0,
)

pub returns : goal.returns
returns c =
    let a = c.args in
    let i = a.x + 1024 - c.window_left.result in
    let j = a.y + 32768 - (c.wide.result + 32768) % 65536 in
    let covered = sym c.covers.ensures ∙ c.if-not-covers.false in record {
      lists = listing-as _ _ _ _ _ _
          (background-there a.vram.now (halfwords_of a.w) a.eye a.x a.y i j _ _ covered (omega (
            arith,
            c.window_left.ensures.0,
          )) (omega (
            arith,
            c.wide.ensures.0,
          )) c.source_x.ensures
          c.source_y.ensures)
          (listing-more _ _ _ _ _ _ _ _ c.list_parameters-next.ensures.lists c.list_cell.ensures);
      upper_bound = omega (
        arith,
        c.list_cell.ensures.count,
        cell-length a.vram.now (halfwords_of a.w)
            c.source_x.result
            c.source_y.result,
        c.list_parameters-next.ensures.upper_bound,
      );
    }
